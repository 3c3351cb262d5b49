-- What the reader of a script holds.
use Rattle.std.specs.Prelude.{◌≡◌, ◌+◌, ◌-◌, ◌≤◌, length, take, drop}
use Rattle.keystore_run.specs.declared.reader.LineReader.TheInside.{Inside}
use Rattle.keystore_run.specs.Window.{ReaderView, HasNoFeedBelow}
use Rattle.tags.specs.declared.limits.TheConstants.{LINE_BYTES, SCRIPT_BYTES}

-- the bytes between the two ends of the window
abbrev pub held_of : Inside → ReaderView
held_of reader = record { bytes = take (reader.end - reader.start) (drop reader.start reader.buffer.items); taken = reader.taken }

-- the window lies in the buffer, and no LF stands before the place up to which it was searched
pub record IsReader (reader : Inside) : Type 0 where
  pub size : length reader.buffer.items ≡ LINE_BYTES + 1
  pub ordered : reader.start ≤ reader.end
  pub within : reader.end ≤ LINE_BYTES + 1
  pub searched : reader.scanned ≤ reader.end - reader.start
  pub free : HasNoFeedBelow (held_of reader).bytes reader.scanned
  pub taken : reader.taken ≤ SCRIPT_BYTES
