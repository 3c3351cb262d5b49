-- What an opening reads and finds, and what a journal may be.
use Rattle.std.proofs.Common.{◌≡◌, ℕ, true, List, Option, Some, None, Err, refl, ◌∙◌}
use Rattle.std.specs.Prelude.{is_some}
use Rattle.ks_outside.specs.declared.disk.Disk.{Ghosts}
use Rattle.ks_outside.specs.Images.{AllImages, tells}
use Rattle.journal_records.specs.declared.record.Record.{Record}
use Rattle.journal_records.specs.declared.fault.StoreFault.{StoreFault}
use Rattle.journal_records.specs.declared.fault.StoreFault.TheVariants as faults
use Rattle.record_areas.specs.Frames.{HasRecords, IsMarked}
use Rattle.record_areas.specs.Holding.{FindsRecords, IsFrameOf, ReadsArea}
use Rattle.use_journal.specs.Journal.{BrokenOff, IsJournal, NoHeader, is_frame, journal_frame}
use Rattle.use_journal.specs.Holding.{FindsJournal, MissesHeader, ReadsJournal}
use Rattle.tags.specs.declared.limits.TheConstants.{JOURNAL_BYTES}

-- a journal's records stand where those of its frame do
pub frame_of : IsFrameOf journal_frame 8 JOURNAL_BYTES 7
frame_of = record { start_is = refl; limit_is = refl; kinds_is = refl; apart = is_frame }

-- the records that are read behind the header are a journal's
pub read_behind : (image : List ℕ) (fault : StoreFault) → IsMarked journal_frame image → ReadsArea 8 JOURNAL_BYTES 7 image (Err fault) → ReadsJournal image (Err fault)
read_behind image faults.Device marked reads = tt
read_behind image (faults.Corrupted offset) marked reads = BrokenOff marked reads
read_behind image faults.Memory marked reads = tt

-- where the header is missing there is no journal
pub missed : (image : List ℕ) (fault : StoreFault) → MissesHeader image fault → ReadsJournal image (Err fault)
missed image faults.Device misses = tt
missed image (faults.Corrupted offset) misses = NoHeader misses.0 misses.1
missed image faults.Memory misses = tt

some_of : (content : Option (List ℕ)) → is_some content ≡ true → (bytes : List ℕ) × (content ≡ Some bytes)
some_of None e = absurd (cc)
some_of (Some bytes) e = (bytes, refl)

no_fault : (past : List Record) (fault : StoreFault) (image : List ℕ) → IsJournal past image → MissesHeader image fault → FindsJournal past (Err fault)
no_fault past faults.Device image journal misses = tt
no_fault past (faults.Corrupted offset) image journal misses = misses.0 journal.marked
no_fault past faults.Memory image journal misses = tt

-- what is found of the records behind the header
pub finds_behind : (past : List Record) (fault : StoreFault) → FindsRecords 8 past (Err fault) → FindsJournal past (Err fault)
finds_behind past faults.Device finds = tt
finds_behind past (faults.Corrupted offset) finds = finds
finds_behind past faults.Memory finds = tt

module _ {D : Type 0} (g : Ghosts D) (law : (disk : D) (c : List ℕ) → g.content disk ≡ Some c → g.images disk c) (old new : D) where
  -- a disk that tells its bytes has an image
  told_image : tells g new ≡ tells g old → tells g old ≡ true → (c : List ℕ) × g.images new c
  told_image telling told =
      let bytes = some_of (g.content new) (telling ∙ told) in
      (bytes.0, law new bytes.0 bytes.1)

  -- and so the header of its journal is found
  pub finds_header : (past : List Record) (fault : StoreFault) → tells g new ≡ tells g old → AllImages g new (g.images old) → AllImages g old (IsJournal past) → tells g old ≡ true
      → AllImages g new (λ image. MissesHeader image fault) → FindsJournal past (Err fault)
  finds_header past fault telling fewer all told misses =
      let image = told_image telling told in
      no_fault past fault image.0 (all image.0 (fewer image.0 image.1)) (misses image.0 image.1)

  -- and the records behind it
  pub has_records : (past : List Record) → AllImages g new (g.images old) → AllImages g old (IsJournal past) → AllImages g new (HasRecords 8 JOURNAL_BYTES past)
  has_records past fewer all image left = (all image (fewer image left)).records
