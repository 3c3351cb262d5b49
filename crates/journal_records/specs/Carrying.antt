-- What bytes of records make of a lasting part: which one they stand for by themselves, and from which to which they carry.
use Rattle.std.specs.Prelude.{◌≡◌, ℕ, List, [], ◌∷◌, ◌++◌, map, true, Option, Some}
use Rattle.std.specs.List.{AllByRecursion}
use Rattle.std.specs.Option.{option_and_then, option_map}
use Rattle.journal_records.specs.declared.change.Change.{Change}
use Rattle.journal_records.specs.declared.record.Record.{Record}
use Rattle.journal_records.specs.declared.record.Record.TheVariants as records
use Rattle.journal_records.specs.LastingPart.{Lasting}
use Rattle.journal_records.specs.Needs.{is_met}
use Rattle.journal_records.specs.Effects.{after, changed}
use Rattle.journal_records.specs.Spelling.{IsChange, IsRecord, framed, spelled}
use Rattle.journal_records.specs.States.{ReadState, state_of}
use Rattle.journal_records.specs.Storable.{area_kinds}

-- The lasting part that records leave, the newest first: read in turn from the empty one, each with its need met; None where a need is not.
abbrev pub part_left : List Record → Option Lasting
part_left past = option_map (λ (state : ReadState). state.part) (state_of past)

-- The bytes are whole records, rows of a snapshot and changes, that an area may hold; read from nothing, each with its need met, they leave
-- the part.
pub record StandsBy (bytes : List ℕ) (part : Lasting) : Type 0 where
  pub past : List Record
  pub records : AllByRecursion (IsRecord area_kinds) past
  pub is : bytes ≡ spelled past
  pub left : part_left past ≡ Some part

-- what changes leave, the newest first: made in turn from a part, each with its need met; None where a need is not
abbrev pub made_from : Lasting → List Change → Option Lasting
made_from part [] = Some part
made_from part (change ∷ past) = option_and_then (λ before. changed before change) (made_from part past)

-- their records
abbrev pub recorded : List Change → List Record
recorded past = map records.Change past

-- The bytes are whole records of changes alone, which made in order from the one part, each with its need met, leave the other.
pub record Carries (from to : Lasting) (bytes : List ℕ) : Type 0 where
  pub changes : List Change
  pub are : AllByRecursion IsChange changes
  pub is : bytes ≡ spelled (recorded changes)
  pub left : made_from from changes ≡ Some to

-- ---- the laws

-- no byte carries a part to itself
abbrev pub NothingCarries : Type 0
NothingCarries = (part : Lasting) → Carries part part []

-- and to itself alone
abbrev pub NothingStays : Type 0
NothingStays = (from to : Lasting) → Carries from to [] → to ≡ from

-- the record of a change whose need is met carries the part before it to the part after it
abbrev pub ChangeCarries : Type 0
ChangeCarries = (part : Lasting) (change : Change) → IsChange change → is_met part change ≡ true → Carries part (after part change) (framed change)

-- what carries on may be put behind what carried so far
abbrev pub CarriesOn : Type 0
CarriesOn = (from between to : Lasting) (first second : List ℕ) → Carries from between first → Carries between to second → Carries from to (first ++ second)

-- Whose records stand for a part, whatever they are, may have put behind them what carries from that part on, wherever it was written.
abbrev pub StandsOn : Type 0
StandsOn = (records more : List ℕ) (from to : Lasting) → StandsBy records from → Carries from to more → StandsBy (records ++ more) to
