-- The listed images are images, and the others are not.
use Rattle.std.proofs.Common.{◌≡◌, ◌⊎◌, inl, inr, ⊎_elim, ℕ, ◌+◌, ◌<◌, ◌≤◌, List, [], ◌∷◌, length, take, drop, get_or, refl, sym, ap, ◌∙◌, arith}
use Rattle.ks_outside.specs.Ranges.{Torn}
use Rattle.disk_model.specs.DiskCalls.{DiskCall}
use Rattle.disk_model.specs.CrashImages.{IsImage}
use Rattle.disk_model.specs.Limits.{IsWithin, IsPending}
use Rattle.disk_model.specs.Listed.{five, over, past, two, synced, AreImages, AreNoImages, of_five, not_of_five, of_over, not_of_over, of_past, not_of_past, of_two, not_of_two, of_synced, not_of_synced}
use Rattle.disk_model.proofs.Reaching.{images_within}

abbrev abcde : List ℕ
abcde = 97 ∷ 98 ∷ 99 ∷ 100 ∷ 101 ∷ []

-- a torn write over the five bytes, or over an image of them
torn : (at n : ℕ) (old new : List ℕ) → take (length (take at old)) new ≡ take at old → drop (at + n) new ≡ drop (at + n) old → length old ≤ length new
    → length new ≤ length old ⊎ length new ≤ at + n → Torn at n old new
torn at n old new front after longer size = record {
  front = front;
  after = after;
  no_shorter = longer;
  no_longer = ⊎_elim (λ (le : length new ≤ length old). omega (arith, le)) (λ (le : length new ≤ at + n). omega (arith, le)) size;
}

pub are_of_five : AreImages five of_five
are_of_five = (refl, tt)

over_five : (c : List ℕ) → Torn 1 3 abcde c → IsImage over c
over_five c t = (abcde, refl, t)

past_five : (c : List ℕ) → Torn 7 2 abcde c → IsImage past c
past_five c t = (abcde, refl, t)

pub are_of_over : AreImages over of_over
are_of_over = (
  over_five _ (torn 1 3 abcde _ refl refl (omega arith) (inl (omega arith))),
  (
    over_five _ (torn 1 3 abcde _ refl refl (omega arith) (inl (omega arith))),
    (over_five _ (torn 1 3 abcde _ refl refl (omega arith) (inl (omega arith))), tt),
  ),
)

pub are_of_past : AreImages past of_past
are_of_past = (
  past_five _ (torn 7 2 abcde _ refl refl (omega arith) (inl (omega arith))),
  (
    past_five _ (torn 7 2 abcde _ refl refl (omega arith) (inr (omega arith))),
    (past_five _ (torn 7 2 abcde _ refl refl (omega arith) (inr (omega arith))), tt),
  ),
)

abbrev axyze : List ℕ
axyze = 97 ∷ 88 ∷ 89 ∷ 90 ∷ 101 ∷ []

pub are_of_two : AreImages two of_two
are_of_two = (
  (axyze, over_five _ (torn 1 3 abcde _ refl refl (omega arith) (inl (omega arith))), torn 7 2 axyze _ refl refl (omega arith) (inr (omega arith))),
  ((abcde, over_five _ (torn 1 3 abcde _ refl refl (omega arith) (inl (omega arith))), torn 7 2 abcde _ refl refl (omega arith) (inl (omega arith))), tt),
)

pub are_of_synced : AreImages synced of_synced
are_of_synced = (refl, tt)

-- ---- the others

pub are_not_of_five : AreNoImages five not_of_five
are_not_of_five = (
  (λ e. omega (arith, ap length e)),
  (
    (λ e. let byte : 102 ≡ 101 = ap (λ (l : List ℕ). get_or l 4 0) e in omega (arith, byte)),
    ((λ e. let byte : 88 ≡ 98 = ap (λ (l : List ℕ). get_or l 1 0) e in omega (arith, byte)), tt),
  ),
)

pub are_not_of_synced : AreNoImages synced not_of_synced
are_not_of_synced = (
  (λ e. let byte : 63 ≡ 0 = ap (λ (l : List ℕ). get_or l 6 0) e in omega (arith, byte)),
  ((λ e. omega (arith, ap length e)), tt),
)

free_over : (place : ℕ) → (place < 1) ⊎ (4 ≤ place) → IsPending over place → ⊥
free_over place there (inl inside) = ⊎_elim (λ (k : place < 1). omega (arith, k, inside.0)) (λ (k : 4 ≤ place). omega (arith, k, inside.1)) there
free_over place there (inr none) = none

free_past : (place : ℕ) → place < 7 → IsPending past place → ⊥
free_past place below (inl inside) = omega (arith, below, inside.0)
free_past place below (inr none) = none

free_two : (place : ℕ) → (place < 1) ⊎ ((4 ≤ place) × (place < 7)) → IsPending two place → ⊥
free_two place there (inl inside) = ⊎_elim (λ (k : place < 1). omega (arith, k, inside.0)) (λ (k : (4 ≤ place) × (place < 7)). omega (arith, k.1, inside.0)) there
free_two place there (inr earlier) = ⊎_elim (λ (k : place < 1). free_over place (inl k) earlier) (λ (k : (4 ≤ place) × (place < 7)). free_over place (inr k.0) earlier) there

-- a byte that no pending write touched, changed
changed : (calls : List DiskCall) (c : List ℕ) (place byte wanted : ℕ) → get_or c place 0 ≡ byte → (IsWithin calls c → get_or c place 0 ≡ wanted) → (byte ≡ wanted → ⊥) → IsImage calls c → ⊥
changed calls c place byte wanted is kept other image = other (sym is ∙ kept (images_within calls c image))

pub are_not_of_over : AreNoImages over not_of_over
are_not_of_over = (
  changed over _ 0 98 97 refl (λ w. w.stays 0 (omega arith) (free_over 0 (inl (omega arith)))) (λ e. omega (arith, e)),
  (
    changed over _ 4 102 101 refl (λ w. w.stays 4 (omega arith) (free_over 4 (inr (omega arith)))) (λ e. omega (arith, e)),
    (
      (λ image. let w = images_within over _ image in omega (arith, w.no_shorter)),
      ((λ image. let w = images_within over _ image in omega (arith, w.no_longer)), tt),
    ),
  ),
)

pub are_not_of_past : AreNoImages past not_of_past
are_not_of_past = (
  changed past _ 4 102 101 refl (λ w. w.stays 4 (omega arith) (free_past 4 (omega arith))) (λ e. omega (arith, e)),
  (
    (λ image. let w = images_within past _ image in omega (arith, w.no_shorter)),
    ((λ image. let w = images_within past _ image in omega (arith, w.no_longer)), tt),
  ),
)

pub are_not_of_two : AreNoImages two not_of_two
are_not_of_two = (
  changed two _ 0 98 97 refl (λ w. w.stays 0 (omega arith) (free_two 0 (inl (omega arith)))) (λ e. omega (arith, e)),
  (
    changed two _ 4 102 101 refl (λ w. w.stays 4 (omega arith) (free_two 4 (inr (omega arith, omega arith)))) (λ e. omega (arith, e)),
    ((λ image. let w = images_within two _ image in omega (arith, w.no_longer)), tt),
  ),
)
