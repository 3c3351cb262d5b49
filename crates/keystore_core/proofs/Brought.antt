-- What an opening of the engine leaves of the disk, by that of its store.
use Rattle.std.proofs.Common.{Err, false}
use Rattle.std.specs.Prelude.{Bool}
use Rattle.ks_outside.specs.Images.{AllImages, Reads}
use Rattle.ks_outside.specs.declared.disk.Disk.{Ghosts}
use Rattle.journal_compact.specs.Formats.{IsOlder}
use Rattle.journal_records.specs.LastingPart.{Lasting}
use Rattle.journal_records.specs.declared.fault.StoreFault.{StoreFault}
use Rattle.journal_records.specs.declared.fault.StoreFault.TheVariants as faults
use Rattle.key_database.specs.Stands.{Brings, StaysFor, WhereRefused}
use Rattle.key_database.specs.Store.{StandsFor}
use Rattle.key_database.specs.declared.database.KeyDatabase.{KeyDatabase}
use Rattle.keystore_core.specs.Opening.{IsBrought, LeavesRefused, unwritten_of}

module _ {D : Type 0} (g : Ghosts D) (old new : D) where
  pub brought_by : (failed : Bool) → Brings g old new → ((part : Lasting) → AllImages g old (StandsFor part) → StaysFor g old new part)
      → (AllImages g old (λ image. IsOlder image → ⊥) → Reads g old new failed) → IsBrought g old new
  brought_by failed brings stays newer = record { brings = brings; stays = stays; newer = λ none. unwritten_of g old new failed (newer none) }

  pub refused_by : (fault : StoreFault) → WhereRefused {T = KeyDatabase} (Err fault) (Reads g old new false) → LeavesRefused g old new (Err fault)
  refused_by faults.Device left = tt
  refused_by (faults.Corrupted offset) left = unwritten_of g old new false left
  refused_by faults.Memory left = tt
