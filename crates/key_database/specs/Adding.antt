-- What a step adds to a store on a sure disk that tells its bytes.
use Rattle.std.specs.Prelude.{◌≡◌, ◌<◌, ◌^◌, ◌-◌, ℕ, List, ◌++◌, drop, take, Some, true}
use Rattle.ks_outside.specs.Faults.{Rises}
use Rattle.ks_outside.specs.Images.{AllImages, tells}
use Rattle.ks_outside.specs.declared.disk.Disk.{Ghosts}
use Rattle.journal_records.specs.Carrying.{Carries}
use Rattle.journal_records.specs.LastingPart.{Lasting}
use Rattle.journal_records.specs.Storable.{area_kinds}
use Rattle.journal_records.specs.declared.record.Record.{Record}
use Rattle.record_areas.specs.Frames.{AreRecords}
use Rattle.journal_compact.specs.Holding.{HoldsSurely, place_of}
use Rattle.journal_compact.specs.Stores.{start_of}
use Rattle.journal_compact.specs.declared.areas.Areas.{Areas}
use Rattle.journal_compact.specs.declared.store_place.StorePlace.{StorePlace}
use Rattle.key_database.specs.Store.{StandsFor, left_by}

-- of the bytes of a store that is at this place, those of its records
abbrev pub records_at : StorePlace → List ℕ → List ℕ
records_at place bytes = take place.bytes (drop (start_of place.selected) bytes)

-- What came to a store between two places, from the bytes that a read gives at the one to those at the other, and from the lasting part that is
-- kept at the one to that at the other: nothing; or records behind those that were there, which carry the one part to the other; or it was
-- written anew, and its count of compactions rose.
pub data Adds (place later : StorePlace) (old new : List ℕ) (part after : Lasting) : Type 0 where
  Nothing : later ≡ place → records_at later new ≡ records_at place old → after ≡ part → Adds place later old new part after
  Behind : later.selected ≡ place.selected → later.compactions ≡ place.compactions → (more : List ℕ) → records_at later new ≡ records_at place old ++ more → Carries part after more
      → Adds place later old new part after
  Anew : Rises place.compactions later.compactions → Adds place later old new part after

-- Surely: on a sure disk that tells its bytes each image stands for the lasting part, and so do the records of the selected area by themselves;
-- also where a change waits to be settled.
pub record KeepsSurely {D : Type 0} (g : Ghosts D) (areas : Areas) (disk : D) (part : Lasting) : Type 0 where
  pub told : tells g disk ≡ true
  pub past : List Record
  pub records : AreRecords area_kinds past
  pub left : left_by past ≡ Some part
  pub holds : HoldsSurely g areas disk past
  pub stands : AllImages g disk (StandsFor part)

-- A step over such a disk, from a part that is surely kept to another: that one is surely kept then, and what was added is told by the places
-- before and after it.
pub record StepsSurely {D : Type 0} (g : Ghosts D) (areas later : Areas) (old new : D) (part after : Lasting) : Type 0 where
  pub keeps : KeepsSurely g later new after
  pub adds : (before now : List ℕ) → g.content old ≡ Some before → g.content new ≡ Some now → Adds (place_of areas) (place_of later) before now part after
