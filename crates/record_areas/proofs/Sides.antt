-- A published record, in a frame.
use Rattle.std.proofs.Common.{◌≡◌, inl, inr, ⊎_elim, ℕ, ◌+◌, ◌-◌, ◌<◌, ◌≤◌, Bool, true, false, List, [], ◌∷◌, length, Some, ap, ◌∙◌, arith, length-append}
use Rattle.ks_outside.specs.declared.disk.Disk.{Ghosts}
use Rattle.ks_outside.specs.Images.{AllImages, Passes}
use Rattle.ks_outside.proofs.Joins.{passes_as, passes_none}
use Rattle.gated_records.specs.Areas.{HoldsAt, IsArea, HasArea, IsOutside, IsWithOrWithout, with_more, opened_to}
use Rattle.journal_records.specs.declared.record.Record.{Record}
use Rattle.journal_records.specs.Commits.{Committed, InDoubt, NotBegun}
use Rattle.journal_records.specs.Spelling.{IsRecord, record_closed, record_framed, record_tail, spelled}
use Rattle.record_areas.specs.Frames.{Frame, IsBeforeOrAfter, IsMarked, IsStore}
use Rattle.record_areas.specs.Holding.{Appends, IsOf, IsSettledOn, KeepsPlaces, end_of, end_with, is_waiting, limit_of}
use Rattle.record_areas.specs.declared.area.Area.{Area}
use Rattle.record_areas.proofs.Marks.{marks_pass, marks_stay, passes_both}

-- where the records end with the new one
pub next_place : (start : ℕ) (past : List Record) (it : Record) (end : ℕ) (closed : List ℕ) → end ≡ start + length (spelled past) → closed ≡ record_closed it
    → end + (length closed - 1) ≡ start + length (spelled (it ∷ past))
next_place start past it end closed place is =
    omega (arith, place, ap length is, length-append (record_tail it) (0 ∷ []), length-append (spelled past) (record_framed it))

pub shorter : (start limit : ℕ) (past : List Record) (it : Record) → start + length (spelled (it ∷ past)) < limit → start + length (spelled past) < limit
shorter start limit past it within = omega (arith, within, length-append (spelled past) (record_framed it))

-- a record that does not pass the limit leaves a place for the next gate
pub before_end : (start limit : ℕ) (past : List Record) (it : Record) (end : ℕ) (closed : List ℕ) → end ≡ start + length (spelled past) → closed ≡ record_closed it
    → length closed ≤ limit - end → start + length (spelled (it ∷ past)) < limit
before_end start limit past it end closed place is few =
    omega (arith, few, next_place start past it end closed place is, ap length is, length-append (record_tail it) (0 ∷ []), length-append (spelled past) (record_framed it), place)

-- an area with its marks is a store
as_store : (frame : Frame) (past : List Record) (image : List ℕ) → frame.start + length (spelled past) < frame.limit → IsArea frame.start (spelled past) image → IsMarked frame image → IsStore frame past image
as_store frame past image within area marked = record { marked = marked; records = record { area = area; within = within } }

as_stores : (frame : Frame) (past : List Record) (it : Record) (image : List ℕ) → frame.start + length (spelled (it ∷ past)) < frame.limit
    → IsWithOrWithout frame.start (spelled past) (record_tail it) image → IsMarked frame image → IsBeforeOrAfter frame past it image
as_stores frame past it image within either marked =
    ⊎_elim
    (λ (a : IsArea frame.start (spelled past) image). inl (as_store frame past image (shorter frame.start frame.limit past it within) a marked))
    (λ (a : IsArea frame.start (with_more (spelled past) (record_tail it)) image). inr (as_store frame (it ∷ past) image within a marked))
    either

pub marks_of : (frame : Frame) (past : List Record) (it : Record) (image : List ℕ) → IsBeforeOrAfter frame past it image → IsMarked frame image
marks_of frame past it image either = ⊎_elim (λ (s : IsStore frame past image). s.marked) (λ (s : IsStore frame (it ∷ past) image). s.marked) either

pub areas_of : (frame : Frame) (past : List Record) (it : Record) (image : List ℕ) → IsBeforeOrAfter frame past it image → IsWithOrWithout frame.start (spelled past) (record_tail it) image
areas_of frame past it image either = ⊎_elim (λ (s : IsStore frame past image). inl s.records.area) (λ (s : IsStore frame (it ∷ past) image). inr s.records.area) either

module _ {D : Type 0} (g : Ghosts D) where
  pub has_area : (disk : D) (frame : Frame) (past : List Record) (end : ℕ) → end ≡ frame.start + length (spelled past) → AllImages g disk (IsStore frame past) → HasArea g disk frame.start (spelled past) end
  has_area disk frame past end place all = record { place = place; images = λ image left. (all image left).records.area }

-- once the gate was read, each image has the records that it says
module _ {D : Type 0} (g : Ghosts D) (old new : D) (frame : Frame) (past : List Record) (it : Record) (within : frame.start + length (spelled (it ∷ past)) < frame.limit)
    (all : AllImages g old (IsBeforeOrAfter frame past it)) (fewer : AllImages g new (g.images old)) where
  pub all_kept : (opened : Bool) → opened ≡ true → AllImages g new (IsArea frame.start (opened_to opened (spelled past) (record_tail it))) → AllImages g new (IsStore frame (it ∷ past))
  all_kept true e area image left = as_store frame (it ∷ past) image within (area image left) (marks_of frame past it image (all image (fewer image left)))
  all_kept false e area image left = absurd (cc)

  pub all_lost : (opened : Bool) → opened ≡ false → AllImages g new (IsArea frame.start (opened_to opened (spelled past) (record_tail it))) → AllImages g new (IsStore frame past)
  all_lost false e area image left = as_store frame past image (shorter frame.start frame.limit past it within) (area image left) (marks_of frame past it image (all image (fewer image left)))
  all_lost true e area image left = absurd (cc)

  pub all_areas : AllImages g old (IsWithOrWithout frame.start (spelled past) (record_tail it))
  all_areas image left = areas_of frame past it image (all image left)

-- An append to an area that holds these records, with room for the new one: what it leaves where it went through, where it is torn, and
-- where no call was made.
module _ {D : Type 0} (g : Ghosts D) (area later : Area) (old new : D) (frame : Frame) (past : List Record) (it : Record) (closed : List ℕ)
    (settled : IsSettledOn g area old frame past) (fits : IsRecord frame.kinds it) (is : closed ≡ record_closed it) where
  pub appends_none : Appends g area old old frame past it NotBegun
  appends_none = record { appended = settled; passes = passes_none g old (IsBeforeOrAfter frame past it); nothing = λ sure never. absurd (cc) }

  module _ (few : length closed ≤ limit_of area - end_of area) (passes : Passes g old new (IsWithOrWithout frame.start (spelled past) (record_tail it)))
      (keeps : (place : ℕ) (bytes : List ℕ) → IsOutside place bytes (end_of area) (length closed) → AllImages g old (HoldsAt place bytes) → AllImages g new (HoldsAt place bytes))
      (keeps_passing : (place : ℕ) (bytes : List ℕ) → IsOutside place bytes (end_of area) (length closed) → AllImages g old (HoldsAt place bytes) → Passes g old new (HoldsAt place bytes))
      (before_limit : end_of area < limit_of area) (same : KeepsPlaces area later) where
    within : frame.start + length (spelled (it ∷ past)) < frame.limit
    within = before_end frame.start frame.limit past it (end_of area) closed settled.place is (omega (arith, few, settled.of.limit))

    begins : frame.start ≤ end_of area
    begins = omega (arith, settled.place)

    ends : end_of area + length closed ≤ frame.limit
    ends = omega (arith, few, settled.of.limit, before_limit)

    marked : AllImages g old (IsMarked frame)
    marked image left = (settled.images image left).marked

    stay : AllImages g new (IsMarked frame)
    stay = marks_stay g old new (end_of area) (length closed) frame.start frame.limit frame.marks begins ends settled.of.apart keeps marked

    all_pass : Passes g old new (IsBeforeOrAfter frame past it)
    all_pass =
        let both = passes_both g old new (IsWithOrWithout frame.start (spelled past) (record_tail it)) (IsMarked frame) passes
        (marks_pass g old new (IsWithOrWithout frame.start (spelled past) (record_tail it)) (end_of area) (length closed) frame.start frame.limit frame.marks begins ends settled.of.apart passes keeps_passing marked) in
        passes_as g old new (λ image. IsWithOrWithout frame.start (spelled past) (record_tail it) image × IsMarked frame image) (IsBeforeOrAfter frame past it) both
        (λ image two. as_stores frame past it image within two.0 two.1)

    still_of : IsOf frame later
    still_of = record { start = same.start ∙ settled.of.start; limit = same.limit ∙ settled.of.limit; apart = settled.of.apart }

    pub appends_done : is_waiting later ≡ false → end_of later ≡ end_of area + (length closed - 1)
        → AllImages g new (IsArea frame.start (with_more (spelled past) (record_tail it))) → Appends g later old new frame past it Committed
    appends_done idle end done = record {
      appended = record {
        idle = idle;
        of = still_of;
        place = end ∙ next_place frame.start past it (end_of area) closed settled.place is;
        records = (fits, settled.records);
        images = λ image left. as_store frame (it ∷ past) image within (done image left) (stay image left);
      };
      passes = all_pass;
      nothing = λ sure never. absurd (cc);
    }

    pub appends_torn : end_with later ≡ Some (end_of area + (length closed - 1)) → end_of later ≡ end_of area
        → AllImages g new (IsWithOrWithout frame.start (spelled past) (record_tail it)) → (g.is_sure old → AllImages g new (IsArea frame.start (spelled past)))
        → Appends g later old new frame past it InDoubt
    appends_torn waits end torn nothing = record {
      appended = record {
        waits = waits ∙ ap (λ n. Some n) (next_place frame.start past it (end_of area) closed settled.place is);
        of = still_of;
        place = end ∙ settled.place;
        records = (fits, settled.records);
        images = λ image left. as_stores frame past it image within (torn image left) (stay image left);
      };
      passes = all_pass;
      nothing = λ sure doubt image left. as_store frame past image (shorter frame.start frame.limit past it within) (nothing sure image left) (stay image left);
    }
