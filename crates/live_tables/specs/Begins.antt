-- The table of the begins on each key: what a look-up finds in it, and what a change of it is.
use Rattle.std.specs.Prelude.{◌≡◌, ℕ, true, is_some, unwrap_or}
use Rattle.std.specs.BTreeMap.{get}
use Rattle.std.specs.Ordering.{nat_cmp}
use Rattle.rule_model.specs.declared.entry_change.BootChange.{BootChange}
use Rattle.rule_model.specs.Boot.{begins_after, begins_of}
use Rattle.rule_model.specs.Entries.{History}
use Rattle.rule_model.specs.Setup.{Setup}
use Rattle.live_tables.specs.declared.begins.Begins.{Begins}

-- how many operations began on the key of a number
abbrev pub begins_in : Begins → ℕ → ℕ
begins_in begins key = unwrap_or (get nat_cmp begins.counts key) 0

-- the table has taken room for a begin on a key
abbrev pub HasRoomForBegin : Begins → ℕ → Type 0
HasRoomForBegin begins key = is_some (get nat_cmp begins.counts key) ≡ true

-- an operation begins on a key
abbrev pub ChangesBegins : BootChange → Begins → Begins → Type 0
ChangesBegins change old new = (key : ℕ) → begins_in new key ≡ begins_after change key (begins_in old key)

abbrev pub SameBegins : Begins → Begins → Type 0
SameBegins old new = (key : ℕ) → begins_in new key ≡ begins_in old key

-- the table stands for a history
abbrev pub BeginsStand : Setup → Begins → History → Type 0
BeginsStand setup begins past = (key : ℕ) → begins_in begins key ≡ begins_of setup past key
