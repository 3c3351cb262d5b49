-- Why the marks of a store were not found on some bytes: they are not there, and the place tells what is wrong first; or a call failed.
use Rattle.std.specs.Prelude.{◌≡◌, ◌⊎◌, ℕ, List, None, slice_get, ⊤}
use Rattle.gated_records.specs.Areas.{HoldsAt}
use Rattle.journal_records.specs.declared.fault.StoreFault.{StoreFault}
use Rattle.journal_records.specs.declared.fault.StoreFault.TheVariants as faults
use Rattle.journal_compact.specs.declared.places.TheConstants.{SELECTOR}
use Rattle.journal_compact.specs.Stores.{IsNoVersion, IsUnmarked, magic}

-- the store begins with other bytes, or has no version
abbrev pub HasNoFront : List ℕ → ℕ → Type 0
HasNoFront image offset = ((HoldsAt 0 magic image → ⊥) × (offset ≡ 0)) ⊎ (HoldsAt 0 magic image × ((slice_get image 7 ≡ None) × (offset ≡ 7)))

abbrev pub MissesFront : List ℕ → StoreFault → Type 0
MissesFront image faults.Device = ⊤
MissesFront image (faults.Corrupted offset) = HasNoFront image offset
MissesFront image faults.Memory = ⊥

-- or none but that of a journal
abbrev pub HasNoVersion : List ℕ → ℕ → Type 0
HasNoVersion image offset = ((HoldsAt 0 magic image → ⊥) × (offset ≡ 0)) ⊎ (HoldsAt 0 magic image × (IsNoVersion (slice_get image 7) × (offset ≡ 7)))

abbrev pub MissesVersion : List ℕ → StoreFault → Type 0
MissesVersion image faults.Device = ⊤
MissesVersion image (faults.Corrupted offset) = HasNoVersion image offset
MissesVersion image faults.Memory = ⊥

-- there is no selector
abbrev pub MissesSelector : List ℕ → StoreFault → Type 0
MissesSelector image faults.Device = ⊤
MissesSelector image (faults.Corrupted offset) = (slice_get image SELECTOR ≡ None) × (offset ≡ SELECTOR)
MissesSelector image faults.Memory = ⊥

-- either
abbrev pub MissesMarks : List ℕ → StoreFault → Type 0
MissesMarks image faults.Device = ⊤
MissesMarks image (faults.Corrupted offset) = IsUnmarked image offset
MissesMarks image faults.Memory = ⊥
