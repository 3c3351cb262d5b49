-- What an opening reads and finds.
use Rattle.std.proofs.Common.{◌≡◌, ℕ, ◌+◌, true, List, Option, Some, None, Err, length, refl, sym, ap, ◌∙◌, subst}
use Rattle.std.specs.Prelude.{is_some}
use Rattle.ks_outside.specs.declared.disk.Disk.{Ghosts}
use Rattle.ks_outside.specs.Images.{AllImages, tells}
use Rattle.journal_records.specs.declared.fault.StoreFault.{StoreFault}
use Rattle.journal_records.specs.declared.fault.StoreFault.TheVariants as faults
use Rattle.journal_records.specs.LastingPart.{Lasting}
use Rattle.journal_records.specs.Spelling.{spelled}
use Rattle.journal_records.specs.Storable.{area_kinds}
use Rattle.record_areas.specs.Frames.{AreRecords, Frame, HasRecords, IsMarked}
use Rattle.record_areas.specs.declared.reading.Reading.{Reading}
use Rattle.use_journal.specs.Journal.{journal_frame}
use Rattle.journal_compact.specs.Formats.{HasFormat, MissesFormat, OfAreas, OfJournal, kinds_in, limit_in, start_in}
use Rattle.journal_compact.specs.Holding.{IsMarkedOn}
use Rattle.journal_compact.specs.Stores.{IsFrameOf, apart_of, frame_of, limit_of, start_of}
use Rattle.journal_compact.specs.declared.areas.Areas.{Areas}
use Rattle.journal_compact.specs.declared.format.Format.{Format}
use Rattle.journal_compact.specs.declared.format.Format.TheVariants as formats
use Rattle.journal_compact.specs.declared.places.Selected.{Selected}
use Rattle.key_database.specs.Frames.{IsStoreFrame}
use Rattle.key_database.specs.Store.{BrokenOff, IsBadStore, NoFrame, StandsFor, UnmetNeed}
use Rattle.key_database.specs.Stands.{AreBroken, AreUnmet, FindsStore, IsAreasAt, IsFoundAt, IsIdle, IsReplayed, KeepsFound, KeepsPart, LeaveNothing, ReadsKept, ReadsStore, Replays, kept_stands, stands_older}
use Rattle.key_database.specs.declared.opening.Found.{Found}
use Rattle.key_database.specs.declared.opening.Found.TheVariants as founds
use Rattle.key_database.proofs.Waiting.{area_idle}

module _ {D : Type 0} (g : Ghosts D) (disk : D) where
  -- records behind the marks of a store, that leave nothing
  leave_bad : (frame : Frame) → IsStoreFrame frame → AllImages g disk (IsMarked frame) → (offset : ℕ) → LeaveNothing g disk frame.start frame.limit frame.kinds offset
      → AllImages g disk (λ image. IsBadStore image offset)
  leave_bad frame is marked offset (AreBroken broken) image left =
      BrokenOff (record { frame = frame; is_frame = is; marked = marked image left; broken = broken image left })
  leave_bad frame is marked offset (AreUnmet u) image left = UnmetNeed (record {
    frame = frame;
    is_frame = is;
    past = u.past;
    records = u.records;
    store = record { marked = marked image left; records = u.images image left };
    first = u.first;
  })

  bad_format : (format : Format) → HasFormat g disk format → (offset : ℕ) → LeaveNothing g disk (start_in format) (limit_in format) (kinds_in format) offset
      → AllImages g disk (λ image. IsBadStore image offset)
  bad_format formats.Journal marked offset none = leave_bad journal_frame (OfJournal refl) marked offset none
  bad_format (formats.Areas selected) on offset none =
      let of = on.is_frame in
      leave_bad (frame_of selected of.version of.selector)
      (OfAreas (record { selected = selected; of = record { version = of.version; newer = of.newer; selector = of.selector; selects = of.selects; is = refl } }))
      (subst (λ (f : Frame). AllImages g disk (IsMarked f)) of.is on.marked) offset none

  pub bad_replay : (format : Format) → HasFormat g disk format → (reading : Reading) (fault : StoreFault)
      → Replays g reading disk (start_in format) (limit_in format) (kinds_in format) (Err fault) → ReadsKept g disk (Err fault)
  bad_replay format has reading faults.Device r = tt
  bad_replay format has reading (faults.Corrupted offset) r = bad_format format has offset r
  bad_replay format has reading faults.Memory r = tt

  -- or that leave a lasting part
  keeps_part : (selected : Selected) → IsMarkedOn g disk selected → (reading : Reading) (areas : Areas) (part : Lasting) → IsReplayed g reading disk (start_of selected) (limit_of selected) area_kinds part
      → IsAreasAt selected reading areas → KeepsPart g areas disk part
  keeps_part selected on reading areas part replayed at = record {
    frame = on.frame;
    past = replayed.past;
    settled = record {
      idle = at.idle;
      is_frame = subst (λ (s : Selected). IsFrameOf s on.frame) (sym at.selects) on.is_frame;
      area = record {
        idle = area_idle areas at.idle;
        of = record {
          start = at.start ∙ sym (ap (λ (f : Frame). f.start) on.is_frame.is);
          limit = at.limit ∙ sym (ap (λ (f : Frame). f.limit) on.is_frame.is);
          apart = apart_of selected on.frame on.is_frame;
        };
        place = at.end ∙ replayed.through.place ∙ sym (ap (λ (f : Frame). f.start + length (spelled replayed.past)) on.is_frame.is);
        records = subst (λ (f : Frame). AreRecords f.kinds replayed.past) (sym on.is_frame.is) replayed.through.records;
        images = λ image left. record {
          marked = on.marked image left;
          records = subst (λ (f : Frame). HasRecords f.start f.limit replayed.past image) (sym on.is_frame.is) (replayed.through.images image left);
        };
      };
    };
    left = replayed.left;
  }

  pub keeps_found : (format : Format) → HasFormat g disk format → (reading : Reading) (found : Found) (part : Lasting)
      → IsReplayed g reading disk (start_in format) (limit_in format) (kinds_in format) part → IsFoundAt format reading found → KeepsFound g disk part found
  keeps_found formats.Journal marked reading founds.Journal part replayed at = record {
    past = replayed.past;
    records = replayed.through.records;
    images = λ image left. record { marked = marked image left; records = replayed.through.images image left };
    left = replayed.left;
  }
  keeps_found formats.Journal marked reading (founds.Areas areas) part replayed at = absurd at
  keeps_found (formats.Areas selected) on reading founds.Journal part replayed at = absurd at
  keeps_found (formats.Areas selected) on reading (founds.Areas areas) part replayed at = keeps_part selected on reading areas part replayed at

  -- the images stand for it
  pub found_stands : (found : Found) (part : Lasting) → KeepsFound g disk part found → AllImages g disk (StandsFor part)
  found_stands founds.Journal part kept image left = stands_older kept.past part image kept.records kept.left (kept.images image left)
  found_stands (founds.Areas areas) part kept image left = kept_stands g areas disk part kept image left

pub found_idle : (format : Format) (reading : Reading) (found : Found) → IsFoundAt format reading found → IsIdle found
found_idle formats.Journal reading founds.Journal at = tt
found_idle formats.Journal reading (founds.Areas areas) at = absurd at
found_idle (formats.Areas selected) reading founds.Journal at = tt
found_idle (formats.Areas selected) reading (founds.Areas areas) at = at.idle

-- the marks were read on a disk, and hold on one with fewer images
pub format_fewer : {D : Type 0} (g : Ghosts D) (disk disk' : D) (format : Format) → AllImages g disk' (g.images disk) → HasFormat g disk format → HasFormat g disk' format
format_fewer g disk disk' formats.Journal fewer marked = λ image left. marked image (fewer image left)
format_fewer g disk disk' (formats.Areas selected) fewer on = record { frame = on.frame; is_frame = on.is_frame; marked = λ image left. on.marked image (fewer image left) }

pub no_marks : {D : Type 0} (g : Ghosts D) (disk : D) (fault : StoreFault) → AllImages g disk (λ image. MissesFormat image fault) → ReadsKept g disk (Err fault)
no_marks g disk faults.Device misses = tt
no_marks g disk (faults.Corrupted offset) misses = λ image left. NoFrame (misses image left)
no_marks g disk faults.Memory misses = tt

-- what was read of each image
pub bad_image : {D : Type 0} (g : Ghosts D) (disk : D) (fault : StoreFault) (image : List ℕ) → ReadsKept g disk (Err fault) → g.images disk image → ReadsStore image (Err fault)
bad_image g disk faults.Device image r left = tt
bad_image g disk (faults.Corrupted offset) image r left = r image left
bad_image g disk faults.Memory image r left = tt

pub no_fault_found : (part : Lasting) (fault : StoreFault) (image : List ℕ) → ((offset : ℕ) → IsBadStore image offset → ⊥) → ReadsStore image (Err fault) → FindsStore part (Err fault)
no_fault_found part faults.Device image sound r = tt
no_fault_found part (faults.Corrupted offset) image sound r = sound offset r
no_fault_found part faults.Memory image sound r = tt
