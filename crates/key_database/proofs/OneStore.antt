-- Bytes stand for one lasting part at most, and have their first fault at one place.
use Rattle.std.proofs.Common.{◌≡◌, ℕ, ◌+◌, false, List, [], ◌∷◌, ◌++◌, length, Some, None, refl, sym, ap, ◌∙◌, subst}
use Rattle.std.specs.Option.{option_and_then, option_map}
use Rattle.std.proofs.lemmas.Option.{none-some, same_Some}
use Rattle.journal_records.specs.declared.record.Record.{Record}
use Rattle.journal_records.specs.LastingPart.{Lasting}
use Rattle.journal_records.specs.Spelling.{spelled}
use Rattle.journal_records.specs.States.{ReadState, met_in, state_of, stepped}
use Rattle.record_areas.specs.Frames.{AreRecords, Frame, HasRecords, IsBrokenAt, IsStore}
use Rattle.key_database.specs.Frames.{FrameOrNone, IsStoreFrame, OneFrame, OneNoFrame}
use Rattle.key_database.specs.Store.{StandsFor, BrokenOff, HasUnmet, IsBadStore, IsBrokenOff, IsUnmetIn, NoFrame, UnmetNeed, part_of}

-- what the law of areas tells
abbrev pub OneList : Type 0
OneList = (start limit kinds : ℕ) (past later : List Record) (image : List ℕ) → AreRecords kinds past → AreRecords kinds later
    → HasRecords start limit past image → HasRecords start limit later image → past ≡ later

abbrev pub NotBroken : Type 0
NotBroken = (start limit kinds : ℕ) (past : List Record) (offset : ℕ) (image : List ℕ) → AreRecords kinds past
    → HasRecords start limit past image → IsBrokenAt start limit kinds image offset → ⊥

abbrev pub OnePlace : Type 0
OnePlace = (start limit kinds : ℕ) (offset other : ℕ) (image : List ℕ) → IsBrokenAt start limit kinds image offset
    → IsBrokenAt start limit kinds image other → offset ≡ other

-- with what the law of frames does
pub record StoreLaws : Type 0 where
  pub frames : OneFrame
  pub none : FrameOrNone
  pub no_frame : OneNoFrame
  pub lists : OneList
  pub whole : NotBroken
  pub places : OnePlace

-- where a need is not met nothing is left, and nothing behind it
unmet_leaves : (before : List Record) (it : Record) (state : ReadState) → state_of before ≡ Some state → met_in state it ≡ false → state_of (it ∷ before) ≡ None
unmet_leaves before it state left unmet = rw (left, unmet) refl

nothing_left : (later past : List Record) → state_of past ≡ None → state_of (later ++ past) ≡ None
nothing_left [] past none = none
nothing_left (it ∷ later) past none = ap (option_and_then (λ state. stepped state it)) (nothing_left later past none)

unmet_list : (later before : List Record) (it : Record) (state : ReadState) → state_of before ≡ Some state → met_in state it ≡ false → state_of (later ++ it ∷ before) ≡ None
unmet_list later before it state left unmet = nothing_left later (it ∷ before) (unmet_leaves before it state left unmet)

tails : (x y : Record) (xs ys : List Record) → x ∷ xs ≡ y ∷ ys → xs ≡ ys
tails x y xs ys e = cc

-- the first need that is not met is one
one_unmet : (later other before rest : List Record) (it third : Record) (state last : ReadState) → state_of before ≡ Some state → met_in state it ≡ false → state_of rest ≡ Some last → met_in last third ≡ false
    → later ++ it ∷ before ≡ other ++ third ∷ rest → before ≡ rest
one_unmet [] [] before rest it third state last left unmet left' unmet' e = tails it third before rest e
one_unmet [] (y ∷ other) before rest it third state last left unmet left' unmet' e =
    absurd (none-some state (sym (ap state_of (tails it y before (other ++ third ∷ rest) e) ∙ unmet_list other rest third last left' unmet') ∙ left))
one_unmet (x ∷ later) [] before rest it third state last left unmet left' unmet' e =
    absurd (none-some last (sym (ap state_of (sym (tails x third (later ++ it ∷ before) rest e)) ∙ unmet_list later before it state left unmet) ∙ left'))
one_unmet (x ∷ later) (y ∷ other) before rest it third state last left unmet left' unmet' e =
    one_unmet later other before rest it third state last left unmet left' unmet' (tails x y (later ++ it ∷ before) (other ++ third ∷ rest) e)

-- a part is left, or a need is not met
left_met : (past : List Record) (offset start : ℕ) (part : Lasting) → option_map part_of (state_of past) ≡ Some part → IsUnmetIn start past offset → ⊥
left_met past offset start part left u =
    none-some part (sym (ap (option_map part_of) (ap state_of u.is ∙ unmet_list u.later u.before u.it u.state u.left u.unmet)) ∙ left)

one_place : (past : List Record) (start offset other : ℕ) → IsUnmetIn start past offset → IsUnmetIn start past other → offset ≡ other
one_place past start offset other u v =
    u.place ∙ ap (λ (before : List Record). start + length (spelled before)) (one_unmet u.later v.later u.before v.before u.it v.it u.state v.state u.left u.unmet v.left v.unmet (sym u.is ∙ v.is)) ∙ sym v.place

module _ (laws : StoreLaws) where
  -- stores of one image have the same frame
  same_frame : (frame other : Frame) (past later : List Record) (image : List ℕ) → IsStoreFrame frame → IsStoreFrame other → IsStore frame past image → IsStore other later image → other ≡ frame
  same_frame frame other past later image is is' store store' = laws.frames other frame image is' is store'.marked store.marked

  -- and the same records
  same_past : (frame other : Frame) (past later : List Record) (image : List ℕ) → IsStoreFrame frame → IsStoreFrame other → AreRecords frame.kinds past → AreRecords other.kinds later
      → IsStore frame past image → IsStore other later image → past ≡ later
  same_past frame other past later image is is' records records' store store' =
      let same = same_frame frame other past later image is is' store store' in
      laws.lists frame.start frame.limit frame.kinds past later image records (subst (λ (f : Frame). AreRecords f.kinds later) same records') store.records
      (subst (λ (f : Frame). HasRecords f.start f.limit later image) same store'.records)

  pub one_part : (part other : Lasting) (image : List ℕ) → StandsFor part image → StandsFor other image → part ≡ other
  one_part part other image s t =
      let same = same_past s.frame t.frame s.past t.past image s.is_frame t.is_frame s.records t.records s.store t.store in
      same_Some part other (sym s.lasting ∙ ap (λ (past : List Record). option_map part_of (state_of past)) same ∙ t.lasting)

  whole_store : (frame : Frame) (past : List Record) (offset : ℕ) (image : List ℕ) → IsStoreFrame frame → AreRecords frame.kinds past → IsStore frame past image → IsBrokenOff image offset → ⊥
  whole_store frame past offset image is records store b =
      let same = laws.frames b.frame frame image b.is_frame is b.marked store.marked in
      laws.whole frame.start frame.limit frame.kinds past offset image records store.records (subst (λ (f : Frame). IsBrokenAt f.start f.limit f.kinds image offset) same b.broken)

  pub not_bad : (part : Lasting) (offset : ℕ) (image : List ℕ) → StandsFor part image → IsBadStore image offset → ⊥
  not_bad part offset image s (NoFrame none) = laws.none s.frame image offset s.is_frame s.store.marked none
  not_bad part offset image s (BrokenOff b) = whole_store s.frame s.past offset image s.is_frame s.records s.store b
  not_bad part offset image s (UnmetNeed u) =
      let same = same_past s.frame u.frame s.past u.past image s.is_frame u.is_frame s.records u.records s.store u.store in
      left_met u.past offset u.frame.start part (subst (λ (past : List Record). option_map part_of (state_of past) ≡ Some part) same s.lasting) u.first

  -- what is wrong first, of two
  one_unmet_need : (offset other : ℕ) (image : List ℕ) → HasUnmet image offset → HasUnmet image other → offset ≡ other
  one_unmet_need offset other image u v =
      let past = same_past v.frame u.frame v.past u.past image v.is_frame u.is_frame v.records u.records v.store u.store in
      let frame = same_frame u.frame v.frame u.past v.past image u.is_frame v.is_frame u.store v.store in
      one_place u.past u.frame.start offset other u.first (subst (λ (p : List Record). IsUnmetIn u.frame.start p other) past (subst (λ (f : Frame). IsUnmetIn f.start v.past other) frame v.first))

  one_break : (offset other : ℕ) (image : List ℕ) → IsBrokenOff image offset → IsBrokenOff image other → offset ≡ other
  one_break offset other image a b =
      laws.places a.frame.start a.frame.limit a.frame.kinds offset other image a.broken
      (subst (λ (f : Frame). IsBrokenAt f.start f.limit f.kinds image other) (laws.frames b.frame a.frame image b.is_frame a.is_frame b.marked a.marked) b.broken)

  pub one_offset : (offset other : ℕ) (image : List ℕ) → IsBadStore image offset → IsBadStore image other → offset ≡ other
  one_offset offset other image (NoFrame a) (NoFrame b) = laws.no_frame image offset other a b
  one_offset offset other image (NoFrame a) (BrokenOff b) = absurd (laws.none b.frame image offset b.is_frame b.marked a)
  one_offset offset other image (NoFrame a) (UnmetNeed b) = absurd (laws.none b.frame image offset b.is_frame b.store.marked a)
  one_offset offset other image (BrokenOff a) (NoFrame b) = absurd (laws.none a.frame image other a.is_frame a.marked b)
  one_offset offset other image (BrokenOff a) (BrokenOff b) = one_break offset other image a b
  one_offset offset other image (BrokenOff a) (UnmetNeed b) = absurd (whole_store b.frame b.past offset image b.is_frame b.records b.store a)
  one_offset offset other image (UnmetNeed a) (NoFrame b) = absurd (laws.none a.frame image other a.is_frame a.store.marked b)
  one_offset offset other image (UnmetNeed a) (BrokenOff b) = absurd (whole_store a.frame a.past other image a.is_frame a.records a.store b)
  one_offset offset other image (UnmetNeed a) (UnmetNeed b) = one_unmet_need offset other image a b
