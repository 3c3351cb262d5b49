-- What the walk over the owners finds.
use Rattle.std.specs.Prelude.{◌≡◌, ℕ, ◌+◌, ◌-◌, Option, Some, None, slice_get, if◌then◌else◌}
use Rattle.operation_slots.specs.Table.{SlotTable, owners_of, open_of, IsOldestIdle}
use Rattle.pruning.specs.declared.choice.Candidate.{Candidate}
use Rattle.pruning.specs.Victim.{binary_digits, candidates, first_to_go, goes_before}
use Rattle.pruning.specs.Facts.{open_facts}

abbrev pub earlier : Option Candidate → Candidate → Candidate
earlier None other = other
earlier (Some first) other = if goes_before first other then first else other

module _ {T : Type 0} where
  -- the first of all to go
  abbrev pub IsFirst : SlotTable T → ℕ → Option Candidate → Type 0
  IsFirst slots now first = first ≡ first_to_go (candidates (open_facts slots) now)

  -- the oldest idle operation of the owner at this place
  pub record IsOldestOfOwner (slots : SlotTable T) (now place : ℕ) (found : Candidate) : Type 0 where
    pub uid : ℕ
    pub owner : slice_get (owners_of slots) place ≡ Some uid
    pub oldest : IsOldestIdle slots uid found.number found.touched
    pub malus_is : found.malus ≡ open_of slots uid + binary_digits (now - found.touched)
