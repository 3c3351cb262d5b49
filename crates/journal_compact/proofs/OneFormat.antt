-- An image has the marks of one store of either format at most.
use Rattle.std.proofs.Common.{◌≡◌, ℕ, ◌∷◌, List, [], slice_get, None, Some, refl, sym, ap, ◌∙◌, subst, arith}
use Rattle.std.proofs.lemmas.Option.{none-some, same_Some}
use Rattle.gated_records.specs.Areas.{HoldsAt}
use Rattle.gated_records.proofs.PlaceLemmas.{byte_of, first_of}
use Rattle.record_areas.specs.Frames.{Frame, IsMarked}
use Rattle.use_journal.specs.Journal.{journal_frame}
use Rattle.journal_compact.specs.Formats.{IsNoStore, IsOlder, IsStoreFrame, OfAreas, OfJournal, OtherFront, SelectorLess, VersionLess}
use Rattle.journal_compact.specs.Stores.{IsAreasFrame, IsUnmarked, NoMagic, NoSelector, NoVersion, IsNoVersion, front, magic}
use Rattle.journal_compact.proofs.Single.{front_of, not_unmarked, one_frame}

-- its eighth byte is the version
areas_version : (frame : Frame) (image : List ℕ) (is : IsAreasFrame frame) → IsMarked frame image → slice_get image 7 ≡ Some is.of.version
areas_version frame image is marked = byte_of 0 7 magic is.of.version [] image refl (front_of is.selected frame is.of image marked)

pub journal_version : (image : List ℕ) → IsMarked journal_frame image → IsOlder image
journal_version image marked = byte_of 0 7 magic 49 [] image refl marked.0

-- no image is of both formats
apart : (frame : Frame) (image : List ℕ) → IsAreasFrame frame → IsMarked frame image → IsMarked journal_frame image → ⊥
apart frame image is marked older = is.of.newer (same_Some is.of.version 49 (sym (areas_version frame image is marked) ∙ journal_version image older))

of_older : (frame : Frame) (image : List ℕ) → frame ≡ journal_frame → IsMarked frame image → IsMarked journal_frame image
of_older frame image is marked = subst (λ (f : Frame). IsMarked f image) is marked

pub one_store_frame : (frame other : Frame) (image : List ℕ) → IsStoreFrame frame → IsStoreFrame other → IsMarked frame image → IsMarked other image → frame ≡ other
one_store_frame frame other image (OfAreas is) (OfAreas is') marked marked' = one_frame frame other image is is' marked marked'
one_store_frame frame other image (OfAreas is) (OfJournal is') marked marked' = absurd (apart frame image is marked (of_older other image is' marked'))
one_store_frame frame other image (OfJournal is) (OfAreas is') marked marked' = absurd (apart other image is' marked' (of_older frame image is marked))
one_store_frame frame other image (OfJournal is) (OfJournal is') marked marked' = is ∙ sym is'

-- where there is none
areas_unmarked : (frame : Frame) (image : List ℕ) (offset : ℕ) → IsAreasFrame frame → IsMarked frame image → IsNoStore image offset → ⊥
areas_unmarked frame image offset is marked (OtherFront none at) = not_unmarked frame image offset is marked (NoMagic none at)
areas_unmarked frame image offset is marked (VersionLess held none at) = none-some is.of.version (sym none ∙ areas_version frame image is marked)
areas_unmarked frame image offset is marked (SelectorLess held some none at) = not_unmarked frame image offset is marked (NoSelector held some none at)

journal_unmarked : (image : List ℕ) (offset : ℕ) → IsMarked journal_frame image → IsNoStore image offset → ⊥
journal_unmarked image offset marked (OtherFront none at) = none (first_of 0 magic (49 ∷ []) image marked.0)
journal_unmarked image offset marked (VersionLess held none at) = none-some 49 (sym none ∙ journal_version image marked)
journal_unmarked image offset marked (SelectorLess held some none at) = some (subst IsNoVersion (sym (journal_version image marked)) refl)

pub not_no_store : (frame : Frame) (image : List ℕ) (offset : ℕ) → IsStoreFrame frame → IsMarked frame image → IsNoStore image offset → ⊥
not_no_store frame image offset (OfAreas is) marked none = areas_unmarked frame image offset is marked none
not_no_store frame image offset (OfJournal is) marked none = journal_unmarked image offset (of_older frame image is marked) none

pub one_no_store : (image : List ℕ) (offset other : ℕ) → IsNoStore image offset → IsNoStore image other → offset ≡ other
one_no_store image offset other (OtherFront none at) (OtherFront none' at') = at ∙ sym at'
one_no_store image offset other (OtherFront none at) (VersionLess held none' at') = absurd (none held)
one_no_store image offset other (OtherFront none at) (SelectorLess held some none' at') = absurd (none held)
one_no_store image offset other (VersionLess held none at) (OtherFront none' at') = absurd (none' held)
one_no_store image offset other (VersionLess held none at) (VersionLess held' none' at') = at ∙ sym at'
one_no_store image offset other (VersionLess held none at) (SelectorLess held' some none' at') = absurd (some (subst IsNoVersion (sym none) tt))
one_no_store image offset other (SelectorLess held some none at) (OtherFront none' at') = absurd (none' held)
one_no_store image offset other (SelectorLess held some none at) (VersionLess held' none' at') = absurd (some (subst IsNoVersion (sym none') tt))
one_no_store image offset other (SelectorLess held some none at) (SelectorLess held' some' none' at') = at ∙ sym at'
