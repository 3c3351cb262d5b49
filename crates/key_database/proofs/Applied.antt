-- What is held after a change and after a settling, over plain variables.
use Rattle.std.proofs.Common.{◌≡◌, inl, inr, ⊎_elim, List, ◌∷◌, true, false, Some, Result, Ok, Err, refl, ap, sym, ◌∙◌, subst}
use Rattle.ks_outside.specs.declared.disk.Disk.{Ghosts}
use Rattle.ks_outside.specs.declared.faults.Failed.{Failed}
use Rattle.ks_outside.specs.Images.{Passes}
use Rattle.ks_outside.proofs.Joins.{passes_as}
use Rattle.tags.specs.declared.settled.Settled.TheVariants.{Kept, Lost}
use Rattle.journal_records.specs.declared.change.Change.{Change}
use Rattle.journal_records.specs.Commits.{Committed, InDoubt}
use Rattle.journal_records.specs.LastingPart.{Lasting}
use Rattle.journal_records.specs.Needs.{is_met}
use Rattle.journal_records.specs.Effects.{after}
use Rattle.journal_records.specs.declared.record.Record.{Record}
use Rattle.journal_records.specs.declared.record.Record.TheVariants as records
use Rattle.journal_records.specs.Holding.{Holding, Sure, Unsure, torn_in, settled_in}
use Rattle.record_areas.specs.Frames.{Frame}
use Rattle.journal_compact.specs.Holding.{IsSettledAs, IsSettledOn, IsTurningOn, IsUnsettledOn, is_turning}
use Rattle.journal_compact.specs.declared.areas.Areas.{Areas}
use Rattle.key_database.specs.Store.{Between, MayBe, left_by}
use Rattle.key_database.specs.Stands.{BeginsChange, Commits, Holds, IsSure, IsUnsure, KeepsPart, StandsAround, TurnsPart, WaitsOn, Writes, areas_of, held_images, is_unsettled, lasting, left_after, pending_of}
use Rattle.key_database.specs.declared.database.KeyDatabase.{KeyDatabase}
use Rattle.key_database.proofs.Waiting.{not_idle, turning_now}

module _ {D : Type 0} (g : Ghosts D) (old new : KeyDatabase) (disk disk' : D) (change : Change) (idle : is_unsettled old ≡ false) where
  -- a change of what the table held is one of what is held
  writes_part : (result : Result Unit Failed) (part : Lasting) → IsSure g old disk part → (KeepsPart g (areas_of old) disk (lasting old) → Writes g (areas_of new) disk disk' (lasting old) change result)
      → Writes g (areas_of new) disk disk' part change result
  writes_part result part s writes =
      subst (λ (p : Lasting). Writes g (areas_of new) disk disk' p change result) s.held (writes (subst (λ (p : Lasting). KeepsPart g (areas_of old) disk p) (sym s.held) s.kept))

  pub commits_done : (done : Unit) (before : Holding) → Holds g old disk before → (KeepsPart g (areas_of old) disk (lasting old) → Writes g (areas_of new) disk disk' (lasting old) change (Ok done))
      → lasting new ≡ after (lasting old) change → Commits g new disk disk' change Committed before
  commits_done done (Sure part) s writes made =
      let all = writes_part (Ok done) part s writes in
      record {
        holds = record { kept = all.written; held = made ∙ ap (λ (p : Lasting). after p change) s.held };
        passes = all.passes;
        nothing = λ sure never. absurd (cc);
      }
  commits_done done (Unsure part later) s writes made = absurd (not_idle g (areas_of old) disk part s.change s.waits idle)

  pub commits_torn : (fault : Failed) (before : Holding) → is_met (lasting old) change ≡ true → Holds g old disk before
      → (KeepsPart g (areas_of old) disk (lasting old) → Writes g (areas_of new) disk disk' (lasting old) change (Err fault))
      → lasting new ≡ lasting old → pending_of new ≡ Some change → Commits g new disk disk' change InDoubt before
  commits_torn fault (Sure part) met s writes same pending =
      let all = writes_part (Err fault) part s writes in
      record {
        holds = record {
          change = change;
          waits = all.written;
          held = same ∙ s.held;
          met = subst (λ (p : Lasting). is_met p change ≡ true) s.held met;
          after_it = refl;
          pending = pending;
        };
        passes = passes_as g disk disk' (StandsAround part change) (Between (Sure part) (torn_in change (Sure part))) all.passes (λ c stands. inr stands);
        nothing = λ sure doubt. all.nothing sure;
      }
  commits_torn fault (Unsure part later) met s writes same pending = absurd (not_idle g (areas_of old) disk part s.change s.waits idle)

-- ---- a settling

module _ {D : Type 0} (g : Ghosts D) (areas later : Areas) (disk disk' : D) where
  -- a record that waited was not found, or a compaction waited
  pub lost_of : (part : Lasting) (change : Change) → WaitsOn g areas disk part change
      → ((frame : Frame) (past : List Record) (it : Record) → IsUnsettledOn g areas disk frame past it → IsSettledOn g later disk' frame past)
      → ((frame : Frame) (past rows : List Record) → IsTurningOn g areas disk frame past rows → IsSettledAs g later disk' past rows) → KeepsPart g later disk' part
  lost_of part change waits_on settles turned =
      ⊎_elim (λ (begun : BeginsChange g areas disk part change). record {
        frame = begun.frame;
        past = begun.past;
        settled = settles begun.frame begun.past (records.Change change) begun.unsettled;
        left = begun.left;
      })
      (λ (turning : TurnsPart g areas disk part).
      let found = turned turning.frame turning.past turning.rows turning.turning in
      record {
        frame = found.frame;
        past = found.kept;
        settled = found.settled;
        left = ⊎_elim (λ (is : found.kept ≡ turning.past). ap left_by is ∙ turning.left) (λ (is : found.kept ≡ turning.rows). ap left_by is ∙ turning.same) found.which;
      }) waits_on

module _ {D : Type 0} (g : Ghosts D) (old new : KeyDatabase) (disk disk' : D) (waits : is_unsettled old ≡ true) where
  -- a record that waited was found
  kept_of : (part later : Lasting) → IsUnsure g old disk part later → (is_turning (areas_of old) ≡ true → ⊥)
      → ((frame : Frame) (past : List Record) (it : Record) → IsUnsettledOn g (areas_of old) disk frame past it → IsSettledOn g (areas_of new) disk' frame (it ∷ past)) → KeepsPart g (areas_of new) disk' later
  kept_of part later s not settles =
      ⊎_elim (λ (begun : BeginsChange g (areas_of old) disk part s.change). record {
        frame = begun.frame;
        past = records.Change s.change ∷ begun.past;
        settled = settles begun.frame begun.past (records.Change s.change) begun.unsettled;
        left = left_after begun.past s.change part begun.left s.met ∙ ap (λ (p : Lasting). Some p) s.after_it;
      })
      (λ (turning : TurnsPart g (areas_of old) disk part). absurd (not (turning_now g (areas_of old) disk part turning))) s.waits

  pub holds_kept : (before : Holding) → Holds g old disk before → (is_turning (areas_of old) ≡ true → ⊥)
      → ((frame : Frame) (past : List Record) (it : Record) → IsUnsettledOn g (areas_of old) disk frame past it → IsSettledOn g (areas_of new) disk' frame (it ∷ past))
      → ((change : Change) → pending_of old ≡ Some change → lasting new ≡ after (lasting old) change) → Holds g new disk' (settled_in Kept before)
  holds_kept (Sure part) s not settles made = absurd (cc (s.kept.settled.idle, waits))
  holds_kept (Unsure part later) s not settles made = record {
    kept = kept_of part later s not settles;
    held = made s.change s.pending ∙ ap (λ (p : Lasting). after p s.change) s.held ∙ s.after_it;
  }

  pub holds_lost : (before : Holding) → Holds g old disk before
      → ((frame : Frame) (past : List Record) (it : Record) → IsUnsettledOn g (areas_of old) disk frame past it → IsSettledOn g (areas_of new) disk' frame past)
      → ((frame : Frame) (past rows : List Record) → IsTurningOn g (areas_of old) disk frame past rows → IsSettledAs g (areas_of new) disk' past rows)
      → lasting new ≡ lasting old → Holds g new disk' (settled_in Lost before)
  holds_lost (Sure part) s settles turned same = absurd (cc (s.kept.settled.idle, waits))
  holds_lost (Unsure part later) s settles turned same = record { kept = lost_of g (areas_of old) (areas_of new) disk disk' part s.change s.waits settles turned; held = same ∙ s.held }

  -- that is not known yet
  still_waits : (part : Lasting) (change : Change) → WaitsOn g (areas_of old) disk part change
      → ((frame : Frame) (past : List Record) (it : Record) → IsUnsettledOn g (areas_of old) disk frame past it → IsUnsettledOn g (areas_of new) disk' frame past it)
      → ((frame : Frame) (past rows : List Record) → IsTurningOn g (areas_of old) disk frame past rows → IsTurningOn g (areas_of new) disk' frame past rows) → WaitsOn g (areas_of new) disk' part change
  still_waits part change waits_on settles turned =
      ⊎_elim (λ (begun : BeginsChange g (areas_of old) disk part change). inl (record {
        frame = begun.frame;
        past = begun.past;
        unsettled = settles begun.frame begun.past (records.Change change) begun.unsettled;
        left = begun.left;
      }))
      (λ (turning : TurnsPart g (areas_of old) disk part). inr (record {
        frame = turning.frame;
        past = turning.past;
        rows = turning.rows;
        turning = turned turning.frame turning.past turning.rows turning.turning;
        left = turning.left;
        same = turning.same;
      })) waits_on

  pub holds_waiting : (before : Holding) → Holds g old disk before
      → ((frame : Frame) (past : List Record) (it : Record) → IsUnsettledOn g (areas_of old) disk frame past it → IsUnsettledOn g (areas_of new) disk' frame past it)
      → ((frame : Frame) (past rows : List Record) → IsTurningOn g (areas_of old) disk frame past rows → IsTurningOn g (areas_of new) disk' frame past rows)
      → lasting new ≡ lasting old → pending_of new ≡ pending_of old → Holds g new disk' before
  holds_waiting (Sure part) s settles turned same pending = absurd (cc (s.kept.settled.idle, waits))
  holds_waiting (Unsure part later) s settles turned same pending = record {
    change = s.change;
    waits = still_waits part s.change s.waits settles turned;
    held = same ∙ s.held;
    met = s.met;
    after_it = s.after_it;
    pending = pending ∙ s.pending;
  }

-- the moments of a call that writes nothing
pub passes_held : {D : Type 0} (g : Ghosts D) (old : KeyDatabase) (disk disk' : D) (held : Holding) → Holds g old disk held → Passes g disk disk' (g.images disk) → Passes g disk disk' (MayBe held)
passes_held g old disk disk' held holds passes = passes_as g disk disk' (g.images disk) (MayBe held) passes (held_images g old disk held holds)
