-- What is held while nothing changes: with other room, and after the store is read again.
use Rattle.std.proofs.Common.{◌≡◌, inl, inr, ⊎_elim, ℕ, List, false, Err, refl, sym, ap, ◌∙◌, subst, arith}
use Rattle.ks_outside.specs.declared.disk.Disk.{Ghosts}
use Rattle.ks_outside.specs.Images.{AllImages}
use Rattle.journal_records.specs.declared.change.Change.{Change}
use Rattle.journal_records.specs.declared.fault.StoreFault.{StoreFault}
use Rattle.journal_records.specs.declared.fault.StoreFault.TheVariants as faults
use Rattle.journal_records.specs.declared.record.Record.{Record}
use Rattle.journal_records.specs.LastingPart.{Lasting}
use Rattle.journal_records.specs.Holding.{Holding, Sure, Unsure}
use Rattle.record_areas.specs.Frames.{Frame, IsMarked}
use Rattle.use_journal.specs.Journal.{journal_frame}
use Rattle.journal_compact.specs.Formats.{OfAreas, OfJournal}
use Rattle.record_areas.specs.Holding as lower
use Rattle.record_areas.specs.declared.area.Area.{Area}
use Rattle.journal_compact.specs.Holding.{MayHold, selected_of, turn_of}
use Rattle.journal_compact.specs.declared.areas.Areas.{Areas}
use Rattle.journal_compact.specs.declared.areas.Turn.{Turn}
use Rattle.journal_compact.specs.declared.areas.Turn.TheVariants.{Idle, Copying, Selecting}
use Rattle.journal_compact.specs.declared.places.Selected.{Selected}
use Rattle.key_database.specs.Frames.{OneFrame}
use Rattle.key_database.specs.Store.{StandsFor}
use Rattle.key_database.specs.Stands.{BeginsChange, FindsStore, Holds, IsReadAgain, KeepsPart, ReadsKept, Rereads, SameStore, TurnsPart, WaitsOn, areas_of, is_unsettled, kept_stands, lasting}
use Rattle.key_database.specs.declared.database.KeyDatabase.{KeyDatabase}
use Rattle.key_database.proofs.Waiting.{not_idle}

-- the same store holds the same
pub same_holds : {D : Type 0} (g : Ghosts D) (old new : KeyDatabase) (disk : D) (held : Holding) → SameStore old new → Holds g old disk held → Holds g new disk held
same_holds g old new disk (Sure part) same s = record {
  kept = subst (λ (a : Areas). KeepsPart g a disk part) (sym same.areas_is) s.kept;
  held = same.lasting_is ∙ s.held;
}
same_holds g old new disk (Unsure part later) same s = record {
  change = s.change;
  waits = subst (λ (a : Areas). WaitsOn g a disk part s.change) (sym same.areas_is) s.waits;
  held = same.lasting_is ∙ s.held;
  met = s.met;
  after_it = s.after_it;
  pending = same.pending_is ∙ s.pending;
}

module _ {D : Type 0} (g : Ghosts D) (disk disk' : D) (fewer : AllImages g disk' (g.images disk)) where
  settled_fewer : (area : Area) (frame : Frame) (past : List Record) → lower.IsSettledOn g area disk frame past → lower.IsSettledOn g area disk' frame past
  settled_fewer area frame past s = record { idle = s.idle; of = s.of; place = s.place; records = s.records; images = λ c image. s.images c (fewer c image) }

  unsettled_fewer : (area : Area) (frame : Frame) (past : List Record) (it : Record) → lower.IsUnsettledOn g area disk frame past it → lower.IsUnsettledOn g area disk' frame past it
  unsettled_fewer area frame past it s = record { waits = s.waits; of = s.of; place = s.place; records = s.records; images = λ c image. s.images c (fewer c image) }

  may_fewer : (frame : Frame) (version : ℕ) (selected : Selected) (past rows : List Record) (turn : Turn) → MayHold g disk frame version selected past rows turn → MayHold g disk' frame version selected past rows turn
  may_fewer frame version selected past rows Idle holds = holds
  may_fewer frame version selected past rows Copying holds = λ c image. holds c (fewer c image)
  may_fewer frame version selected past rows (Selecting next) holds = (holds.0, λ c image. holds.1 c (fewer c image))

  kept_fewer : (areas : Areas) (part : Lasting) → KeepsPart g areas disk part → KeepsPart g areas disk' part
  kept_fewer areas part kept = record {
    frame = kept.frame;
    past = kept.past;
    settled = record { idle = kept.settled.idle; is_frame = kept.settled.is_frame; area = settled_fewer _ kept.frame kept.past kept.settled.area };
    left = kept.left;
  }

  begun_fewer : (areas : Areas) (part : Lasting) (change : Change) → BeginsChange g areas disk part change → BeginsChange g areas disk' part change
  begun_fewer areas part change begun = record {
    frame = begun.frame;
    past = begun.past;
    unsettled = record { idle = begun.unsettled.idle; is_frame = begun.unsettled.is_frame; area = unsettled_fewer _ begun.frame begun.past _ begun.unsettled.area };
    left = begun.left;
  }

  turning_fewer : (areas : Areas) (part : Lasting) → TurnsPart g areas disk part → TurnsPart g areas disk' part
  turning_fewer areas part t = record {
    frame = t.frame;
    past = t.past;
    rows = t.rows;
    turning = record {
      is_frame = t.turning.is_frame;
      area = t.turning.area;
      rows_are = t.turning.rows_are;
      images = may_fewer t.frame t.turning.is_frame.version (selected_of areas) t.past t.rows (turn_of areas) t.turning.images;
    };
    left = t.left;
    same = t.same;
  }

  -- no image came
  pub fewer_holds : (old : KeyDatabase) (held : Holding) → Holds g old disk held → Holds g old disk' held
  fewer_holds old (Sure part) s = record { kept = kept_fewer (areas_of old) part s.kept; held = s.held }
  fewer_holds old (Unsure part later) s = record {
    change = s.change;
    waits = ⊎_elim (λ (begun : BeginsChange g (areas_of old) disk part s.change). inl (begun_fewer (areas_of old) part s.change begun)) (λ (turning : TurnsPart g (areas_of old) disk part). inr (turning_fewer (areas_of old) part turning)) s.waits;
    held = s.held;
    met = s.met;
    after_it = s.after_it;
    pending = s.pending;
  }

module _ {D : Type 0} (g : Ghosts D) (old : KeyDatabase) (disk : D) (idle : is_unsettled old ≡ false) where
  -- what was read is what was held
  pub same_found : (held : Holding) → Holds g old disk held → (read : Lasting) → ((part : Lasting) → AllImages g disk (StandsFor part) → read ≡ part) → lasting old ≡ read
  same_found (Sure part) s read found = s.held ∙ sym (found part (kept_stands g (areas_of old) disk part s.kept))
  same_found (Unsure part later) s read found = absurd (not_idle g (areas_of old) disk part s.change s.waits idle)

  -- it was no journal
  pub not_older : (held : Holding) → Holds g old disk held → OneFrame → (c : List ℕ) → g.images disk c → IsMarked journal_frame c → ⊥
  not_older (Sure part) s one c image marked =
      let of = s.kept.settled.is_frame in
      let same = one s.kept.frame journal_frame c (OfAreas (record { selected = selected_of (areas_of old); of = of })) (OfJournal refl) (s.kept.settled.area.images c image).marked marked in
      absurd (omega (arith, ap (λ (f : Frame). f.kinds) same, ap (λ (f : Frame). f.kinds) of.is))
  not_older (Unsure part later) s one c image marked = not_idle g (areas_of old) disk part s.change s.waits idle

  -- and a fault is none of the bytes
  pub no_other : (held : Holding) → Holds g old disk held → (fault : StoreFault) → ((part : Lasting) → AllImages g disk (StandsFor part) → FindsStore part (Err fault)) → IsReadAgain (Err fault)
  no_other (Sure part) s fault found = by_fault fault (found part (kept_stands g (areas_of old) disk part s.kept)) where
    by_fault : (f : StoreFault) → FindsStore part (Err f) → IsReadAgain (Err f)
    by_fault faults.Device finds = tt
    by_fault (faults.Corrupted offset) finds = finds
    by_fault faults.Memory finds = tt
  no_other (Unsure part later) s fault found = absurd (not_idle g (areas_of old) disk part s.change s.waits idle)

-- what was read and is broken is broken
pub bad_reread : {D : Type 0} (g : Ghosts D) (disk : D) (part : Lasting) (fault : StoreFault) → ReadsKept g disk (Err fault) → AllImages g disk (λ image. Rereads part image (Err fault))
bad_reread g disk part faults.Device r image left = tt
bad_reread g disk part (faults.Corrupted offset) r image left = r image left
bad_reread g disk part faults.Memory r image left = tt
