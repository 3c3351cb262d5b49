-- The parameters of one tag stand side by side.
use Rattle.std.proofs.Common.{◌≡◌, ℕ, zero, suc, ◌+◌, ◌<◌, ◌≤◌, Bool, true, false, ◌&&◌, ◌||◌, cond, ltb, leb, List, [], ◌∷◌, length, get_or, take, drop, Some, refl, sym, ap, ◌∙◌, arith}
use Rattle.std.specs.Prelude.{find, slice_get}
use Rattle.std.specs.List.{AllByRecursion, filter, list_any}
use Rattle.std.specs.List.Sorted.{IsNonDecreasingBy, IsPartitionPoint}
use Rattle.std.proofs.lemmas.Bool.{ltb-true, ltb-false, leb-true, leb-false, ne_eqb, eq-eqb}
use Rattle.std.proofs.lemmas.List.{get_or-drop, length-drop}
use Rattle.tags.specs.declared.tag.Tag.{Tag}
use Rattle.tags.specs.declared.param.Param.{Param}
use Rattle.tags.specs.Tag.{type_of, low_of}
use Rattle.tag_lists.specs.Order.{shape_of, Fits, rank, StandsBefore, IsInOrder}
use Rattle.tag_lists.specs.Lookups.{is_of, all_of}
use Rattle.tag_lists.proofs.Canonical.{value_small}

filter_drop : (p : Param → Bool) (xs : List Param) (i : ℕ) → ((k : ℕ) (d : Param) → k < i → k < length xs → p (get_or xs k d) ≡ false) → filter p xs ≡ filter p (drop i xs)
filter_drop p [] zero h = refl
filter_drop p [] (suc i) h = refl
filter_drop p (x ∷ xs) zero h = refl
filter_drop p (x ∷ xs) (suc i) h =
    let first : p x ≡ false = h 0 x (omega arith) (omega arith) in
    rw first (filter_drop p xs i (λ k d lt in_list. h (suc k) d (omega (arith, lt)) (omega (arith, in_list))))

filter_take : (p : Param → Bool) (xs : List Param) (n : ℕ) → ((k : ℕ) (d : Param) → k < n → k < length xs → p (get_or xs k d) ≡ true) → ((k : ℕ) (d : Param) → n ≤ k → k < length xs → p (get_or xs k d) ≡ false) → filter p xs ≡ take n xs
filter_take p [] zero passes fails = refl
filter_take p [] (suc n) passes fails = refl
filter_take p (x ∷ xs) zero passes fails =
    let first : p x ≡ false = fails 0 x (omega arith) (omega arith) in
    rw first (filter_take p xs zero (λ k d lt in_list. absurd (omega (arith, lt))) (λ k d le in_list. fails (suc k) d (omega arith) (omega (arith, in_list))))
filter_take p (x ∷ xs) (suc n) passes fails =
    let first : p x ≡ true = passes 0 x (omega arith) (omega arith) in
    rw first (ap (λ ys. x ∷ ys) (filter_take p xs n (λ k d lt in_list. passes (suc k) d (omega (arith, lt)) (omega (arith, in_list))) (λ k d le in_list. fails (suc k) d (omega (arith, le)) (omega (arith, in_list)))))

pub all_at : (P : Param → Type 0) (xs : List Param) → AllByRecursion P xs → (k : ℕ) (d : Param) → k < length xs → P (get_or xs k d)
all_at P [] h k d lt = absurd (omega (arith, lt))
all_at P (x ∷ xs) h zero d lt = h.0
all_at P (x ∷ xs) h (suc k) d lt = all_at P xs h.1 k d (omega (arith, lt))

-- the low bits do not fall
low_rises : (p q : Param) → Fits p → Fits q → StandsBefore p q → low_of p.tag ≤ low_of q.tag
low_rises p q fp fq before = omega (arith, before.rises, value_small (shape_of (type_of p.tag)) p.value fp, value_small (shape_of (type_of q.tag)) q.value fq)

pub lows_rise : (ps : List Param) → AllByRecursion Fits ps → IsInOrder ps → IsNonDecreasingBy (λ p. low_of p.tag) ps
lows_rise [] fits ordered i j d le lt = absurd (omega (arith, lt))
lows_rise (p ∷ ps) fits ordered zero zero d le lt = omega arith
lows_rise (p ∷ ps) fits ordered zero (suc j) d le lt =
    low_rises p (get_or ps j d) fits.0 (all_at Fits ps fits.1 j d (omega (arith, lt))) (all_at (StandsBefore p) ps ordered.0 j d (omega (arith, lt)))
lows_rise (p ∷ ps) fits ordered (suc i) zero d le lt = absurd (omega (arith, le))
lows_rise (p ∷ ps) fits ordered (suc i) (suc j) d le lt = lows_rise ps fits.1 ordered.1 i j d (omega (arith, le)) (omega (arith, lt))

abbrev pub IsEnd : (Param → Bool) → List Param → ℕ → Type 0
IsEnd p xs n = IsPartitionPoint (λ y. p y ≡ true) (λ y. p y ≡ false) xs n

-- what two searches by the low bits lead to
pub side_by_side : (tag : Tag) (ps : List Param) (from count : ℕ) → IsEnd (λ y. ltb (low_of y.tag) (low_of tag)) ps from → IsEnd (λ y. leb (low_of y.tag) (low_of tag)) (drop from ps) count → take count (drop from ps) ≡ all_of tag ps
side_by_side tag ps from count below within =
    let rest : List Param = drop from ps in
    let above : (k : ℕ) (d : Param) → k < length rest → low_of tag ≤ low_of (get_or rest k d).tag =
    λ k d lt. rw (get_or-drop from ps k d) (ltb-false (low_of (get_or ps (from + k) d).tag) (low_of tag) (below.1 (from + k) d (omega arith) (omega (arith, lt, length-drop from ps)))) in
    sym (filter_drop (is_of tag) ps from (λ k d lt in_list. ne_eqb (low_of (get_or ps k d).tag) (low_of tag) (λ e. omega (arith, e, ltb-true (low_of (get_or ps k d).tag) (low_of tag) (below.0 k d (omega arith) lt))))
    ∙ filter_take (is_of tag) rest count
    (λ k d lt in_list. eq-eqb (low_of (get_or rest k d).tag) (low_of tag) (omega (arith, leb-true (low_of (get_or rest k d).tag) (low_of tag) (within.0 k d (omega arith) lt), above k d in_list)))
    (λ k d le in_list. ne_eqb (low_of (get_or rest k d).tag) (low_of tag) (λ e. omega (arith, e, leb-false (low_of (get_or rest k d).tag) (low_of tag) (within.1 k d le in_list)))))

-- ---- the first of them, and one with a number

pub find-filter : (p : Param → Bool) (xs : List Param) → slice_get (filter p xs) 0 ≡ find p xs
find-filter p [] = refl
find-filter p (x ∷ xs) = elim (p x) as (λ b. slice_get (cond b (x ∷ filter p xs) (filter p xs)) 0 ≡ cond b (Some x) (find p xs)) [ true ↦ refl | false ↦ find-filter p xs ]

pub list_any-filter : (p q : Param → Bool) (xs : List Param) → list_any q (filter p xs) ≡ list_any (λ x. p x && q x) xs
list_any-filter p q [] = refl
list_any-filter p q (x ∷ xs) = elim (p x) as (λ b. list_any q (cond b (x ∷ filter p xs) (filter p xs)) ≡ ((b && q x) || list_any (λ y. p y && q y) xs)) [ true ↦ ap (λ r. q x || r) (list_any-filter p q xs) | false ↦ list_any-filter p q xs ]

-- the ranks do not fall
pub ranks_rise : (ps : List Param) → IsInOrder ps → IsNonDecreasingBy rank ps
ranks_rise [] ordered i j d le lt = absurd (omega (arith, lt))
ranks_rise (p ∷ ps) ordered zero zero d le lt = omega arith
ranks_rise (p ∷ ps) ordered zero (suc j) d le lt =
    let before = all_at (StandsBefore p) ps ordered.0 j d (omega (arith, lt)) in
    omega (arith, before.rises)
ranks_rise (p ∷ ps) ordered (suc i) zero d le lt = absurd (omega (arith, le))
ranks_rise (p ∷ ps) ordered (suc i) (suc j) d le lt = ranks_rise ps ordered.1 i j d (omega (arith, le)) (omega (arith, lt))
