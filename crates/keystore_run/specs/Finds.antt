-- What a reader found.
use Rattle.std.specs.Prelude.{◌≡◌, ℕ, ◌<◌, ◌≤◌, Bool, true, false, List, length, Option}
use Rattle.std.specs.Io.KnownBytes.{IsAtEnd}
use Rattle.keystore_run.specs.declared.reader.Found.{Found}
use Rattle.keystore_run.specs.declared.reader.Found.TheVariants.{Line, End, TooLong, ScriptTooLong, Fault}
use Rattle.keystore_run.specs.Window.{ReaderView, HasNoFeedBelow, IsFirstFeed}
use Rattle.tags.specs.declared.limits.TheConstants.{LINE_BYTES, SCRIPT_BYTES}

-- the held bytes have no LF, and are not too many for a line
pub record IsOpen (held : ReaderView) : Type 0 where
  pub free : HasNoFeedBelow held.bytes (length held.bytes)
  pub short : length held.bytes ≤ LINE_BYTES

pub record FindsLine (held : ReaderView) (count : ℕ) : Type 0 where
  pub feed : IsFirstFeed held.bytes count
  pub short : count ≤ LINE_BYTES

pub record FindsEnd (left : Option (List ℕ)) (held : ReaderView) : Type 0 where
  pub opened : IsOpen held
  pub end : IsAtEnd left
  pub few : held.taken < SCRIPT_BYTES

pub record FindsTooLong (held : ReaderView) : Type 0 where
  pub free : HasNoFeedBelow held.bytes (length held.bytes)
  pub long : LINE_BYTES < length held.bytes

pub record FindsScriptTooLong (held : ReaderView) : Type 0 where
  pub opened : IsOpen held
  pub many : held.taken ≡ SCRIPT_BYTES

pub record FindsFault (held : ReaderView) : Type 0 where
  pub opened : IsOpen held
  pub few : held.taken < SCRIPT_BYTES

abbrev pub Finds : Option (List ℕ) → ReaderView → Found → Type 0
Finds left held (Line count) = FindsLine held count
Finds left held End = FindsEnd left held
Finds left held TooLong = FindsTooLong held
Finds left held ScriptTooLong = FindsScriptTooLong held
Finds left held Fault = FindsFault held

-- whether a read failed
abbrev pub is_fault : Found → Bool
is_fault Fault = true
is_fault _ = false
