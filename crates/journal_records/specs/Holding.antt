-- What is known of the lasting part, and how the answer of a change or of a settling changes it.
use Rattle.std.specs.Prelude.{◌≡◌, ◌⊎◌, Result, Ok, Err}
use Rattle.tags.specs.declared.settled.Settled.{Settled}
use Rattle.tags.specs.declared.settled.Settled.TheVariants.{Kept, Lost}
use Rattle.journal_records.specs.declared.change.Change.{Change}
use Rattle.journal_records.specs.Commits.{CommitState, Committed, InDoubt, NotBegun}
use Rattle.journal_records.specs.LastingPart.{Lasting}
use Rattle.journal_records.specs.Effects.{after}

-- The lasting part is known. Or a change of it waits to be settled: then it is the one before the change, or the one
-- with it.
pub data Holding : Type 0 where
  Sure : Lasting → Holding
  Unsure : Lasting → Lasting → Holding

-- the lasting part that counts until the change is settled
abbrev pub known : Holding → Lasting
known (Sure part) = part
known (Unsure part later) = part

-- a lasting part that may be the one on the disk
abbrev pub IsMember : Holding → Lasting → Type 0
IsMember (Sure part) other = other ≡ part
IsMember (Unsure part later) other = (other ≡ part) ⊎ (other ≡ later)

-- a change was made
abbrev pub changed_in : Change → Holding → Holding
changed_in change (Sure part) = Sure (after part change)
changed_in change (Unsure part later) = Unsure part later

-- a change was begun, and a device call of it failed
abbrev pub torn_in : Change → Holding → Holding
torn_in change (Sure part) = Unsure part (after part change)
torn_in change (Unsure part later) = Unsure part later

-- the change that waited was found on the disk, or was not
abbrev pub settled_in : Settled → Holding → Holding
settled_in settled (Sure part) = Sure part
settled_in Kept (Unsure part later) = Sure later
settled_in Lost (Unsure part later) = Sure part

-- what is known after a change, by what became of it
abbrev pub after_commit : Change → CommitState → Holding → Holding
after_commit change Committed held = changed_in change held
after_commit change InDoubt held = torn_in change held
after_commit change NotBegun held = held

-- what is known after a settling, by the answer of the call that makes it
abbrev pub after_settle : {E : Type 0} → Result Settled E → Holding → Holding
after_settle (Ok settled) held = settled_in settled held
after_settle (Err fault) held = held
