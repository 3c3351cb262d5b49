-- An image has the marks of one store of areas at most.
use Rattle.std.proofs.Common.{◌≡◌, inl, inr, ℕ, ◌+◌, ◌∷◌, List, [], ◌++◌, length, take, drop, get_or, slice_get, Option, Some, None, Err, true, refl, sym, ap, ◌∙◌, subst, arith, length-append}
use Rattle.std.specs.Prelude.{is_some}
use Rattle.std.proofs.lemmas.Option.{none-some}
use Rattle.ks_outside.specs.declared.disk.Disk.{Ghosts}
use Rattle.ks_outside.specs.Images.{AllImages, tells}
use Rattle.gated_records.specs.Areas.{HoldsAt}
use Rattle.gated_records.proofs.PlaceLemmas.{byte_of, first_of}
use Rattle.journal_records.specs.declared.record.Record.{Record}
use Rattle.journal_records.specs.declared.fault.StoreFault.{StoreFault}
use Rattle.journal_records.specs.declared.fault.StoreFault.TheVariants as faults
use Rattle.journal_records.specs.Spelling.{spelled}
use Rattle.journal_records.specs.Storable.{area_kinds}
use Rattle.record_areas.specs.Frames.{Frame, HasRecords, IsBrokenAt, IsMarked, IsStore}
use Rattle.record_areas.specs.Holding.{FindsRecords, ReadsArea}
use Rattle.journal_compact.specs.declared.places.Selected.{Selected}
use Rattle.journal_compact.specs.declared.places.TheConstants.{SELECTOR}
use Rattle.journal_compact.specs.Holding.{FindsAreas, ReadsAreas}
use Rattle.journal_compact.specs.Missing.{MissesMarks}
use Rattle.journal_compact.specs.Quiet.{AgreeAt, AgreeIn}
use Rattle.journal_compact.specs.Stores.{AreAreaRecords, IsAreas, IsAreasFrame, IsCorrupted, IsFrameOf, IsNoVersion, IsUnmarked, NoMagic, NoSelector, NoVersion, frame_of, front, magic, selected_by}

-- ---- one frame

by_selector : (selected : Selected) (frame : Frame) (of : IsFrameOf selected frame) → frame ≡ frame_of (selected_by of.selector) of.version of.selector
by_selector selected frame of = of.is ∙ sym (ap (λ (s : Selected). frame_of s of.version of.selector) of.selects)

pub front_of : (selected : Selected) (frame : Frame) (of : IsFrameOf selected frame) (image : List ℕ) → IsMarked frame image → HoldsAt 0 (front of.version) image
front_of selected frame of image marked = (subst (λ (f : Frame). IsMarked f image) of.is marked).0

selector_of : (selected : Selected) (frame : Frame) (of : IsFrameOf selected frame) (image : List ℕ) → IsMarked frame image → HoldsAt SELECTOR (of.selector ∷ []) image
selector_of selected frame of image marked = (subst (λ (f : Frame). IsMarked f image) of.is marked).1.0

pub one_frame : (frame other : Frame) (image : List ℕ) → IsAreasFrame frame → IsAreasFrame other → IsMarked frame image → IsMarked other image → frame ≡ other
one_frame frame other image is is' marked marked' =
    let version : is.of.version ≡ is'.of.version = ap (λ (l : List ℕ). get_or l 7 0) (sym (front_of is.selected frame is.of image marked) ∙ front_of is'.selected other is'.of image marked') in
    let selector : is.of.selector ≡ is'.of.selector = ap (λ (l : List ℕ). get_or l 0 0) (sym (selector_of is.selected frame is.of image marked) ∙ selector_of is'.selected other is'.of image marked') in
    by_selector is.selected frame is.of ∙ (λ i. frame_of (selected_by (selector i)) (version i) (selector i)) ∙ sym (by_selector is'.selected other is'.of)

-- ---- where there is none

version_there : (version : ℕ) (image : List ℕ) → HoldsAt 0 (front version) image → IsNoVersion (slice_get image 7) → version ≡ 49
version_there version image held none = subst (λ (o : Option ℕ). IsNoVersion o) (byte_of 0 7 magic version [] image refl held) none

pub not_unmarked : (frame : Frame) (image : List ℕ) (offset : ℕ) → IsAreasFrame frame → IsMarked frame image → IsUnmarked image offset → ⊥
not_unmarked frame image offset is marked (NoMagic none at) = none (first_of 0 magic (is.of.version ∷ []) image (front_of is.selected frame is.of image marked))
not_unmarked frame image offset is marked (NoVersion held none at) = is.of.newer (version_there is.of.version image (front_of is.selected frame is.of image marked) none)
not_unmarked frame image offset is marked (NoSelector held some none at) =
    none-some is.of.selector (sym none ∙ byte_of SELECTOR SELECTOR [] is.of.selector [] image (omega arith) (selector_of is.selected frame is.of image marked))

pub one_unmarked : (image : List ℕ) (offset other : ℕ) → IsUnmarked image offset → IsUnmarked image other → offset ≡ other
one_unmarked image offset other (NoMagic none at) (NoMagic none' at') = at ∙ sym at'
one_unmarked image offset other (NoMagic none at) (NoVersion held none' at') = absurd (none held)
one_unmarked image offset other (NoMagic none at) (NoSelector held some none' at') = absurd (none held)
one_unmarked image offset other (NoVersion held none at) (NoMagic none' at') = absurd (none' held)
one_unmarked image offset other (NoVersion held none at) (NoVersion held' none' at') = at ∙ sym at'
one_unmarked image offset other (NoVersion held none at) (NoSelector held' some none' at') = absurd (some none)
one_unmarked image offset other (NoSelector held some none at) (NoMagic none' at') = absurd (none' held)
one_unmarked image offset other (NoSelector held some none at) (NoVersion held' none' at') = absurd (some none')
one_unmarked image offset other (NoSelector held some none at) (NoSelector held' some' none' at') = at ∙ sym at'

-- ---- one list of records, or one place

module _ (one_list : (start limit kinds : ℕ) (past later : List Record) (image : List ℕ) → AreAreaRecords past → AreAreaRecords later → HasRecords start limit past image → HasRecords start limit later image → past ≡ later) where
  pub one_past : (past later : List Record) (image : List ℕ) → AreAreaRecords past → AreAreaRecords later → IsAreas past image → IsAreas later image → past ≡ later
  one_past past later image first second is is' =
      let same = one_frame is.frame is'.frame image is.is_frame is'.is_frame is.store.marked is'.store.marked in
      one_list is.frame.start is.frame.limit area_kinds past later image first second is.store.records (subst (λ (f : Frame). HasRecords f.start f.limit later image) (sym same) is'.store.records)

kinds_are : (frame : Frame) (is : IsAreasFrame frame) → frame.kinds ≡ area_kinds
kinds_are frame is = ap (λ (f : Frame). f.kinds) is.of.is

pub sound : ((start limit kinds : ℕ) (past : List Record) (offset : ℕ) (image : List ℕ) → AreAreaRecords past → HasRecords start limit past image → IsBrokenAt start limit area_kinds image offset → ⊥)
    → (past : List Record) (offset : ℕ) (image : List ℕ) → AreAreaRecords past → IsAreas past image → IsCorrupted image offset → ⊥
sound law past offset image records is (inl unmarked) = not_unmarked is.frame image offset is.is_frame is.store.marked unmarked
sound law past offset image records is (inr broken) =
    let same = one_frame broken.frame is.frame image broken.is_frame is.is_frame broken.marked is.store.marked in
    law is.frame.start is.frame.limit area_kinds past offset image records is.store.records
    (subst (λ (k : ℕ). IsBrokenAt is.frame.start is.frame.limit k image offset) (kinds_are is.frame is.is_frame) (subst (λ (f : Frame). IsBrokenAt f.start f.limit f.kinds image offset) same broken.broken))

pub one_place : ((start limit kinds : ℕ) (offset other : ℕ) (image : List ℕ) → IsBrokenAt start limit kinds image offset → IsBrokenAt start limit kinds image other → offset ≡ other)
    → (offset other : ℕ) (image : List ℕ) → IsCorrupted image offset → IsCorrupted image other → offset ≡ other
one_place law offset other image (inl first) (inl second) = one_unmarked image offset other first second
one_place law offset other image (inl first) (inr second) = absurd (not_unmarked second.frame image offset second.is_frame second.marked first)
one_place law offset other image (inr first) (inl second) = absurd (not_unmarked first.frame image other first.is_frame first.marked second)
one_place law offset other image (inr first) (inr second) =
    let same = one_frame second.frame first.frame image second.is_frame first.is_frame second.marked first.marked in
    law first.frame.start first.frame.limit first.frame.kinds offset other image first.broken (subst (λ (f : Frame). IsBrokenAt f.start f.limit f.kinds image other) same second.broken)

-- ---- what counts

agreed : (place n : ℕ) (bytes image other : List ℕ) → length bytes ≡ n → AgreeAt place n image other → HoldsAt place bytes image → HoldsAt place bytes other
agreed place n bytes image other size agree held =
    ap (λ (k : ℕ). take k (drop place other)) size ∙ sym agree ∙ sym (ap (λ (k : ℕ). take k (drop place image)) size) ∙ held

quiet_of : (selected : Selected) (version selector : ℕ) (past : List Record) (image other : List ℕ) → IsStore (frame_of selected version selector) past image
    → AgreeIn (frame_of selected version selector) past image other → IsStore (frame_of selected version selector) past other
quiet_of selected version selector past image other is agree = record {
  marked = (agreed 0 8 (front version) image other refl agree.front is.marked.0, (agreed SELECTOR 1 (selector ∷ []) image other refl agree.selector is.marked.1.0, tt));
  records = record {
    area = record {
      gate = is.records.area.gate;
      closed = is.records.area.closed;
      is = agreed (frame_of selected version selector).start (length (spelled past) + 1) (spelled past ++ is.records.area.gate ∷ []) image other (length-append (spelled past) (is.records.area.gate ∷ [])) agree.records is.records.area.is;
    };
    within = is.records.within;
  };
}

pub quiet : (frame : Frame) (past : List Record) (image other : List ℕ) → IsAreasFrame frame → IsStore frame past image → AgreeIn frame past image other → IsStore frame past other
quiet frame past image other is store agree =
    subst (λ (f : Frame). IsStore f past other) (sym is.of.is)
    (quiet_of is.selected is.of.version is.of.selector past image other (subst (λ (f : Frame). IsStore f past image) is.of.is store) (subst (λ (f : Frame). AgreeIn f past image other) is.of.is agree))

-- ---- an opening

-- the records that are read between the marks of a store are its own
pub read_within : (frame : Frame) (start limit : ℕ) (image : List ℕ) (fault : StoreFault) → IsAreasFrame frame → frame.start ≡ start → frame.limit ≡ limit → IsMarked frame image
    → ReadsArea start limit area_kinds image (Err fault) → ReadsAreas image (Err fault)
read_within frame start limit image faults.Device is begins ends marked reads = tt
read_within frame start limit image (faults.Corrupted offset) is begins ends marked reads = inr (record {
  frame = frame;
  is_frame = is;
  marked = marked;
  broken =
      subst (λ (k : ℕ). IsBrokenAt frame.start frame.limit k image offset) (sym (kinds_are frame is))
      (subst (λ (k : ℕ). IsBrokenAt frame.start k area_kinds image offset) (sym ends) (subst (λ (k : ℕ). IsBrokenAt k limit area_kinds image offset) (sym begins) reads));
})
read_within frame start limit image faults.Memory is begins ends marked reads = tt

pub finds_within : (start : ℕ) (past : List Record) (fault : StoreFault) → FindsRecords start past (Err fault) → FindsAreas past (Err fault)
finds_within start past faults.Device finds = tt
finds_within start past (faults.Corrupted offset) finds = finds
finds_within start past faults.Memory finds = tt

no_fault : (past : List Record) (fault : StoreFault) (image : List ℕ) → IsAreas past image → MissesMarks image fault → FindsAreas past (Err fault)
no_fault past faults.Device image is misses = tt
no_fault past (faults.Corrupted offset) image is misses = not_unmarked is.frame image offset is.is_frame is.store.marked misses
no_fault past faults.Memory image is misses = tt

some_of : (content : Option (List ℕ)) → is_some content ≡ true → (bytes : List ℕ) × (content ≡ Some bytes)
some_of None e = absurd (cc)
some_of (Some bytes) e = (bytes, refl)

module _ {D : Type 0} (g : Ghosts D) (old new : D) (past : List Record) (fewer : AllImages g new (g.images old)) (all : AllImages g old (IsAreas past)) where
  -- a disk that tells its bytes has an image, and so the marks of its store are found
  pub finds_marks : ((disk : D) (c : List ℕ) → g.content disk ≡ Some c → g.images disk c) → (fault : StoreFault) → tells g new ≡ tells g old → tells g old ≡ true
      → AllImages g new (λ image. MissesMarks image fault) → FindsAreas past (Err fault)
  finds_marks law fault telling told misses =
      let bytes = some_of (g.content new) (telling ∙ told) in
      let image = law new bytes.0 bytes.1 in
      no_fault past fault bytes.0 (all bytes.0 (fewer bytes.0 image)) (misses bytes.0 image)

  -- and the records between them
  pub has_records : (frame : Frame) (start limit : ℕ) → IsAreasFrame frame → frame.start ≡ start → frame.limit ≡ limit → AllImages g new (IsMarked frame) → AllImages g new (HasRecords start limit past)
  has_records frame start limit is begins ends marked image left =
      let store = all image (fewer image left) in
      let same = one_frame store.frame frame image store.is_frame is store.store.marked (marked image left) in
      subst (λ (k : ℕ). HasRecords start k past image) ends (subst (λ (k : ℕ). HasRecords k frame.limit past image) begins (subst (λ (f : Frame). HasRecords f.start f.limit past image) same store.store.records))
