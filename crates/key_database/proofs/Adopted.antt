-- What bringing a store to areas leaves, over plain variables.
use Rattle.std.proofs.Common.{◌≡◌, inl, inr, ⊎_elim, ℕ, List, Bool, false, Some, Result, Ok, Err, sym, subst}
use Rattle.std.specs.Prelude.{IfOk}
use Rattle.ks_outside.specs.declared.disk.Disk.{Ghosts}
use Rattle.ks_outside.specs.declared.faults.Failed.{Failed}
use Rattle.ks_outside.specs.Images.{AllImages, Goes, Passes, Reads}
use Rattle.ks_outside.proofs.Goings.{goes_on}
use Rattle.ks_outside.proofs.Joins.{passes_as, passes_none, passes_on}
use Rattle.journal_records.specs.declared.fault.StoreFault.{StoreFault}
use Rattle.journal_records.specs.declared.fault.StoreFault.TheVariants as faults
use Rattle.journal_records.specs.declared.record.Record.{Record}
use Rattle.journal_records.specs.Commits.{is_device_fault}
use Rattle.journal_records.specs.LastingPart.{Lasting}
use Rattle.journal_records.specs.Storable.{area_kinds}
use Rattle.record_areas.specs.Frames.{AreRecords, IsMarked}
use Rattle.use_journal.specs.Journal.{IsJournal, journal_frame}
use Rattle.journal_compact.specs.Adopting.{Adopted, Adopts, Comes}
use Rattle.journal_compact.specs.Formats.{IsOlder}
use Rattle.journal_compact.specs.Older.{IsOlderOrNew}
use Rattle.journal_compact.specs.Stores.{IsAreas}
use Rattle.journal_compact.specs.declared.areas.Areas.{Areas}
use Rattle.key_database.specs.Store.{StandsFor, left_by}
use Rattle.key_database.specs.Stands.{AreFound, Brings, ComesFrom, KeepsFound, KeepsJournal, KeepsPart, StaysFor, WasBrought, WasThere, WhereRefused, kept_stands, stands_in, stands_older}
use Rattle.key_database.specs.declared.opening.Found.{Found}
use Rattle.key_database.specs.declared.opening.Found.TheVariants as founds
use Rattle.key_database.proofs.Opened.{found_stands}
use Rattle.key_database.proofs.Storables.{frame_records}

-- ---- a journal that is brought to areas

module _ {D : Type 0} (g : Ghosts D) (old new : D) (part : Lasting) (rows : List Record) (fits : AreRecords area_kinds rows) (same : left_by rows ≡ Some part) (kept : KeepsJournal g old part)
    (result : Result Areas Failed) (adopts : (past : List Record) → AllImages g old (IsJournal past) → Adopts g old new past rows result) where
  stands_either : (c : List ℕ) → IsOlderOrNew kept.past rows c → StandsFor part c
  stands_either c either =
      ⊎_elim (λ older. stands_older kept.past part c kept.records kept.left older)
      (λ (a : IsAreas rows c). stands_in a.frame rows part c a.is_frame (frame_records a.frame rows a.is_frame fits) same a.store) either

  areas_keep : (answer : Result Areas Failed) → Adopted g new rows answer → IfOk answer (λ areas. KeepsPart g areas new part)
  areas_keep (Ok areas) left = record { frame = left.frame; past = rows; settled = left.settled; left = same }
  areas_keep (Err fault) left = tt

  pub adopted_keeps : IfOk result (λ areas. KeepsPart g areas new part)
  adopted_keeps = areas_keep result (adopts kept.past kept.images).left

  pub adopted_stays : StaysFor g old new part
  adopted_stays =
      let all = adopts kept.past kept.images in
      record {
        images = λ c left. stands_either c (all.images c left);
        passes = passes_as g old new (IsOlderOrNew kept.past rows) (StandsFor part) all.passes stands_either;
      }

-- ---- areas that stay

module _ {D : Type 0} (g : Ghosts D) (disk : D) where
  pub comes_none : Comes g disk disk
  comes_none = record { images = λ c left. (c, left); passes = passes_none g disk (λ c. (b : List ℕ) × g.images disk b) }

  pub stays_none : (areas : Areas) (part : Lasting) → KeepsPart g areas disk part → StaysFor g disk disk part
  stays_none areas part kept = record { images = kept_stands g areas disk part kept; passes = passes_none g disk (StandsFor part) }

-- ---- an opening

module _ {D : Type 0} (g : Ghosts D) (old mid : D) (reads : Reads g old mid false) where
  -- that wrote nothing
  pub stays_read : (part : Lasting) → AllImages g old (StandsFor part) → StaysFor g old mid part
  stays_read part all = record {
    images = λ c left. all c (reads.images c left);
    passes = passes_as g old mid (g.images old) (StandsFor part) reads.passes all;
  }

  module _ (new : D) (found : Found) (part : Lasting) (kept : KeepsFound g mid part found) (comes : Comes g mid new) where
    either_passes : StaysFor g mid new part → Passes g mid new (λ c. StandsFor part c × ((b : List ℕ) × g.images mid b))
    either_passes stays = record {
      later = stays.passes.later;
      since = λ t c left. ⊎_elim (λ past. inl past) (λ stands. ⊎_elim (λ past. inl past) (λ from. inr (stands, from)) (comes.passes.since t c left)) (stays.passes.since t c left);
    }

    -- where all images stood for one lasting part, it is the part that was read
    module _ (one : (part other : Lasting) (image : List ℕ) → StandsFor part image → StandsFor other image → part ≡ other) (stays : StaysFor g mid new part) where
      same_part : (other : Lasting) → AllImages g old (StandsFor other) → (b : List ℕ) × g.images mid b → part ≡ other
      same_part other all from = one part other from.0 (found_stands g mid found part kept from.0 from.1) (all from.0 (reads.images from.0 from.1))

      pub stays_open : (other : Lasting) → AllImages g old (StandsFor other) → StaysFor g old new other
      stays_open other all = record {
        images = λ c left. subst (λ p. StandsFor p c) (same_part other all (comes.images c left)) (stays.images c left);
        passes = passes_on g old mid new (g.images old) (λ c. StandsFor part c × ((b : List ℕ) × g.images mid b)) (StandsFor other) reads.passes (either_passes stays) all
            (λ c it. subst (λ p. StandsFor p c) (same_part other all it.1) it.0);
      }

    -- each image was there, or stands for what a journal that was there stands for
    module _ (stays : StaysFor g mid new part) (older : (image : List ℕ) → IsMarked journal_frame image → IsOlder image) where
      brought : KeepsJournal g mid part → (c : List ℕ) → StandsFor part c → (b : List ℕ) × g.images mid b → ComesFrom g old c
      brought journal c stands from =
          let store = journal.images from.0 from.1 in
          WasBrought from.0 (reads.images from.0 from.1) (older from.0 store.marked) part (stands_older journal.past part from.0 journal.records journal.left store) stands

      brings_by : (it : Found) → KeepsFound g mid part it → (AreFound it → new ≡ mid) → Brings g old new
      brings_by founds.Journal journal same = record {
        images = λ c left. brought journal c (stays.images c left) (comes.images c left);
        passes = passes_on g old mid new (g.images old) (λ c. StandsFor part c × ((b : List ℕ) × g.images mid b)) (ComesFrom g old) reads.passes (either_passes stays)
            (λ c was. WasThere was) (λ c it. brought journal c it.0 it.1);
      }
      brings_by (founds.Areas areas) it same = record {
        images = λ c left. WasThere (reads.images c (subst (λ (d : D). g.images d c) (same tt) left));
        passes = passes_on g old mid new (g.images old) (g.images old) (ComesFrom g old) reads.passes (subst (λ (d : D). Passes g mid d (g.images old)) (sym (same tt)) (passes_none g mid (g.images old))) (λ c was. WasThere was) (λ c was. WasThere was);
      }

      pub brings_open : (AreFound found → new ≡ mid) → Brings g old new
      brings_open same = brings_by found kept same

    -- where no image is a journal, nothing was written
    module _ (failed : Bool) (goes : Goes g mid new failed) (older : (image : List ℕ) → IsMarked journal_frame image → IsOlder image) where
      by_found : (it : Found) → KeepsFound g mid part it → (AreFound it → new ≡ mid) → AllImages g old (λ image. IsOlder image → ⊥) → Reads g old new failed
      by_found founds.Journal journal same newer = record {
        goes = goes_on g old mid new failed reads.goes goes;
        images = λ c left. absurd (none (comes.images c left));
        passes = passes_on g old mid new (g.images old) (λ c. (b : List ℕ) × g.images mid b) (g.images old) reads.passes comes.passes (λ c was. was) (λ c from. absurd (none from));
      }
        where
          none : (b : List ℕ) × g.images mid b → ⊥
          none from = newer from.0 (reads.images from.0 from.1) (older from.0 (journal.images from.0 from.1).marked)
      by_found (founds.Areas areas) it same newer = record {
        goes = goes_on g old mid new failed reads.goes goes;
        images = λ c left. reads.images c (subst (λ (d : D). g.images d c) (same tt) left);
        passes = passes_on g old mid new (g.images old) (g.images old) (g.images old) reads.passes (subst (λ (d : D). Passes g mid d (g.images old)) (sym (same tt)) (passes_none g mid (g.images old))) (λ c was. was) (λ c was. was);
      }

      pub reads_newer : (AreFound found → new ≡ mid) → AllImages g old (λ image. IsOlder image → ⊥) → Reads g old new failed
      reads_newer same newer = by_found found kept same newer

-- reading brings nothing
pub brings_read : {D : Type 0} (g : Ghosts D) (old new : D) (failed : Bool) → Reads g old new failed → Brings g old new
brings_read g old new failed reads = record {
  images = λ c left. WasThere (reads.images c left);
  passes = passes_as g old new (g.images old) (ComesFrom g old) reads.passes (λ c was. WasThere was);
}

-- a store that is refused was not written to
pub where_refused : {D : Type 0} (T : Type 0) (g : Ghosts D) (old new : D) (fault : StoreFault) → Reads g old new (is_device_fault fault) → WhereRefused {T = T} (Err fault) (Reads g old new false)
where_refused T g old new faults.Device reads = tt
where_refused T g old new (faults.Corrupted offset) reads = reads
where_refused T g old new faults.Memory reads = reads
