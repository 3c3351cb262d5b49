-- The numbers of each group among the pairs in their order, before and after each call.
use Rattle.std.proofs.Common.{◌≡◌, ◌<◌, ◌≤◌, ◌+◌, ◌^◌, ◌==◌, ℕ, zero, suc, Bool, true, false, not, ltb, leb, cond, List, [], ◌∷◌, ◌++◌, map, filter, length, take, drop, get_or, refl, sym, ap, ◌∙◌, subst, arith, inl, inr}
use Rattle.std.specs.List.{AllByRecursion, insert, remove, list_any}
use Rattle.std.specs.List.Sorted.{IsNonDecreasingBy, IsPartitionPoint}
use Rattle.std.proofs.lemmas.Bool.{cases_Bool, eqb-true, eq-eqb, ne_eqb, ltb-true, ltb-false, leb-true, leb-false}
use Rattle.std.proofs.lemmas.List.{get_or-drop, length-drop}
use Rattle.std.proofs.lemmas.List.Edits.{length-remove}
use Rattle.slot_chain.specs.Linked.{NoneIs}
use Rattle.slot_chain.specs.Ordered.{IsAt, IsGap}
use Rattle.slot_chain.proofs.Ordering.{rising_at, rising_differ, rising_inserted, rising_removed, all_inserted, all_removed, none_named, found_in_gap, none_out, remove_is_filter}
use Rattle.group_index.specs.declared.index.Grouped.{Grouped}
use Rattle.group_index.specs.Grouped.{GroupTable, Adds, Drops, IsKept, IsSmall, is_in, numbers_among, numbers_in, rank, seen, without}

-- ---- the range of a group

small_at : (xs : List Grouped) → AllByRecursion IsSmall xs → (k : ℕ) (d : Grouped) → k < length xs → IsSmall (get_or xs k d)
small_at [] all k d l = absurd (omega arith)
small_at (x ∷ xs) all zero d l = all.0
small_at (x ∷ xs) all (suc k) d l = small_at xs all.1 k d (omega arith)

abbrev pub group_of : Grouped → ℕ
group_of pair = pair.group

-- the groups do not fall
pub groups_rise : (xs : List Grouped) → IsKept xs → IsNonDecreasingBy group_of xs
groups_rise xs kept i j d le within = elim (cases_Bool (ltb i j)) [
  | inl e ↦ (let less = rising_at rank xs i j d kept.order (ltb-true i j e) within in
      let small = small_at xs kept.small j d within in
      omega (arith, less, small))
  | inr e ↦ (let same : i ≡ j = omega (arith, le, ltb-false i j e) in omega (arith, ap (λ (m : ℕ). group_of (get_or xs m d)) same))
]

none_in : (g : ℕ) (xs : List Grouped) → ((k : ℕ) (d : Grouped) → k < length xs → g < group_of (get_or xs k d)) → [] ≡ filter (is_in g) xs
none_in g [] h = refl
none_in g (x ∷ xs) h =
    rw (ne_eqb x.group g (λ e. omega (arith, e, h 0 x (omega arith)))) (none_in g xs (λ k d l. h (suc k) d (omega arith)))

-- less before a place, and so many of the group from it on
pub range_is : (g : ℕ) (xs : List Grouped) (from count : ℕ)
    → ((k : ℕ) (d : Grouped) → k < from → k < length xs → group_of (get_or xs k d) < g)
    → ((k : ℕ) (d : Grouped) → k < count → k < length (drop from xs) → group_of (get_or (drop from xs) k d) ≡ g)
    → ((k : ℕ) (d : Grouped) → count ≤ k → k < length (drop from xs) → g < group_of (get_or (drop from xs) k d))
    → take count (drop from xs) ≡ filter (is_in g) xs
range_is g [] zero zero below within above = refl
range_is g [] zero (suc count) below within above = refl
range_is g [] (suc from) zero below within above = refl
range_is g [] (suc from) (suc count) below within above = refl
range_is g (x ∷ xs) (suc from) count below within above =
    rw (ne_eqb x.group g (λ e. omega (arith, e, below 0 x (omega arith) (omega arith))))
    (range_is g xs from count (λ k d l m. below (suc k) d (omega arith) (omega arith)) within above)
range_is g (x ∷ xs) zero (suc count) below within above =
    rw (eq-eqb x.group g (within 0 x (omega arith) (omega arith)))
    (ap (λ (l : List Grouped). x ∷ l)
    (range_is g xs zero count (λ k d l m. absurd (omega (arith, l))) (λ k d l m. within (suc k) d (omega arith) (omega arith)) (λ k d l m. above (suc k) d (omega arith) (omega arith))))
range_is g (x ∷ xs) zero zero below within above = none_in g (x ∷ xs) (λ k d l. above k d (omega arith) l)

abbrev pub IsEnd : (Grouped → Bool) → List Grouped → ℕ → Type 0
IsEnd p xs n = IsPartitionPoint (λ y. p y ≡ true) (λ y. p y ≡ false) xs n

-- what two searches by the group lead to
pub side_by_side : (g : ℕ) (xs : List Grouped) (from count : ℕ) → IsEnd (λ y. ltb (group_of y) g) xs from → IsEnd (λ y. leb (group_of y) g) (drop from xs) count
    → take count (drop from xs) ≡ filter (is_in g) xs
side_by_side g xs from count below within =
    range_is g xs from count
    (λ k d l m. ltb-true (group_of (get_or xs k d)) g (below.0 k d (omega arith) l))
    (λ k d l m. let above : g ≤ group_of (get_or (drop from xs) k d) = rw (get_or-drop from xs k d) (ltb-false (group_of (get_or xs (from + k) d)) g (below.1 (from + k) d (omega arith) (omega (arith, m, length-drop from xs)))) in
    omega (arith, above, leb-true (group_of (get_or (drop from xs) k d)) g (within.0 k d (omega arith) l)))
    (λ k d l m. leb-false (group_of (get_or (drop from xs) k d)) g (within.1 k d l m))

-- ---- a pair

module _ (g n : ℕ) where
  abbrev pub the_pair : Grouped
  the_pair = record { group = g; number = n }

  same_pair : (x : Grouped) → IsSmall x → n < 2 ^ 64 → rank x ≡ rank the_pair → (x.group ≡ g) × (x.number ≡ n)
  same_pair x small fits e = (omega (arith, small, fits, e), omega (arith, small, fits, e))

  -- ---- one comes behind those of its group

  -- those from a place on stand behind the pair
  abbrev Behind : List Grouped → ℕ → Type 0
  Behind xs i = (j : ℕ) (d : Grouped) → i ≤ j → j < length xs → rank the_pair < rank (get_or xs j d)

  none_behind : (xs : List Grouped) → Behind xs 0 → AllByRecursion (λ m. m < n) (numbers_among xs g) → numbers_among xs g ≡ []
  none_behind [] h less = refl
  none_behind (x ∷ xs) h less = elim (cases_Bool (x.group == g)) [
    | inl e ↦ (let less' : (x.number < n) × AllByRecursion (λ m. m < n) (numbers_among xs g) = rw e at less in
        absurd (omega (arith, eqb-true x.group g e, less'.0, h 0 x (omega arith) (omega arith))))
    | inr e ↦ rw e (none_behind xs (λ j d l m. h (suc j) d (omega arith) (omega arith)) (rw e at less))
  ]

  put_own : (xs : List Grouped) (i : ℕ) → Behind xs i → AllByRecursion (λ m. m < n) (numbers_among xs g)
      → numbers_among (insert xs i the_pair) g ≡ numbers_among xs g ++ n ∷ []
  put_own xs zero h less = rw (eq-eqb g g refl, none_behind xs h less) refl
  put_own [] (suc i) h less = rw (eq-eqb g g refl) refl
  put_own (x ∷ xs) (suc i) h less = elim (cases_Bool (x.group == g)) [
    | inl e ↦ (let less' : (x.number < n) × AllByRecursion (λ m. m < n) (numbers_among xs g) = rw e at less in
        rw e (ap (λ (l : List ℕ). x.number ∷ l) (put_own xs i (λ j d l m. h (suc j) d (omega arith) (omega arith)) less'.1)))
    | inr e ↦ rw e (put_own xs i (λ j d l m. h (suc j) d (omega arith) (omega arith)) (rw e at less))
  ]

  put_other : (xs : List Grouped) (i other : ℕ) → (g == other) ≡ false → numbers_among (insert xs i the_pair) other ≡ numbers_among xs other
  put_other xs zero other e = rw e refl
  put_other [] (suc i) other e = rw e refl
  put_other (x ∷ xs) (suc i) other e = elim (cases_Bool (x.group == other)) [
    | inl f ↦ rw f (ap (λ (l : List ℕ). x.number ∷ l) (put_other xs i other e))
    | inr f ↦ rw f (put_other xs i other e)
  ]

  length_insert : (xs : List Grouped) (i : ℕ) → length (insert xs i the_pair) ≡ length xs + 1
  length_insert xs zero = omega arith
  length_insert [] (suc i) = refl
  length_insert (x ∷ xs) (suc i) = omega (arith, length_insert xs i)

  put_among : (xs : List Grouped) (i other : ℕ) → Behind xs i → AllByRecursion (λ m. m < n) (numbers_among xs g)
      → numbers_among (insert xs i the_pair) other ≡ cond (g == other) (numbers_among xs other ++ n ∷ []) (numbers_among xs other)
  put_among xs i other h less = elim (cases_Bool (g == other)) [
    | inl e ↦ rw e (subst (λ (o : ℕ). numbers_among (insert xs i the_pair) o ≡ numbers_among xs o ++ n ∷ []) (eqb-true g other e) (put_own xs i h less))
    | inr e ↦ rw e (put_other xs i other e)
  ]

  -- the pair is not there yet
  not_there : (xs : List Grouped) (i : ℕ) (d : Grouped) → AllByRecursion IsSmall xs → n < 2 ^ 64 → AllByRecursion (λ m. m < n) (numbers_among xs g)
      → i < length xs → rank (get_or xs i d) ≡ rank the_pair → ⊥
  not_there [] i d small fits less l e = omega (arith, l)
  not_there (x ∷ xs) zero d small fits less l e =
      let same = same_pair x small.0 fits e in
      let less' : (x.number < n) × AllByRecursion (λ m. m < n) (numbers_among xs g) = rw (eq-eqb x.group g same.0) at less in
      omega (arith, same.1, less'.0)
  not_there (x ∷ xs) (suc i) d small fits less l e = not_there xs i d small.1 fits (less_behind x xs less) (omega arith) e
    where
      less_behind : (x : Grouped) (xs : List Grouped) → AllByRecursion (λ m. m < n) (numbers_among (x ∷ xs) g) → AllByRecursion (λ m. m < n) (numbers_among xs g)
      less_behind x xs less = elim (cases_Bool (x.group == g)) [
        | inl e ↦ (let less' : (x.number < n) × AllByRecursion (λ m. m < n) (numbers_among xs g) = rw e at less in less'.1)
        | inr e ↦ rw e at less
      ]

  -- ---- one is gone

  abbrev has_rank : Grouped → Bool
  has_rank x = rank x == rank the_pair

  drop_among : (xs : List Grouped) (other : ℕ) → AllByRecursion IsSmall xs → n < 2 ^ 64
      → numbers_among (filter (λ x. not (has_rank x)) xs) other ≡ cond (g == other) (without n (numbers_among xs other)) (numbers_among xs other)
  drop_among [] other small fits = elim (cases_Bool (g == other)) [ inl e ↦ rw e refl | inr e ↦ rw e refl ]
  drop_among (x ∷ xs) other small fits =
      let rest = drop_among xs other small.1 fits in
      elim (cases_Bool (rank x == rank the_pair)) [
        | inl r ↦ (let same = same_pair x small.0 fits (eqb-true (rank x) (rank the_pair) r) in
            elim (cases_Bool (g == other)) [
              | inl e ↦ (let there : (x.group == other) ≡ true = eq-eqb x.group other (same.0 ∙ eqb-true g other e) in
                  rw (r, e, there, eq-eqb x.number n same.1) (rw e at rest))
              | inr e ↦ (let there : (x.group == other) ≡ false = ap (λ (m : ℕ). m == other) same.0 ∙ e in
                  rw (r, e, there) (rw e at rest))
            ])
        | inr r ↦ elim (cases_Bool (x.group == other)) [
          | inl f ↦ elim (cases_Bool (g == other)) [
            | inl e ↦ (let apart : (x.number == n) ≡ false = ne_eqb x.number n (λ s. absurd (
                let is : rank x ≡ rank the_pair = omega (arith, s, eqb-true x.group other f, eqb-true g other e) in
                let t = eq-eqb (rank x) (rank the_pair) is in cc)) in
                rw (r, e, f, apart) (ap (λ (l : List ℕ). x.number ∷ l) (rw e at rest)))
            | inr e ↦ rw (r, e, f) (ap (λ (l : List ℕ). x.number ∷ l) (rw e at rest))
          ]
          | inr f ↦ rw (r, f) rest
        ]
      ]

  has_at : (xs : List Grouped) (i : ℕ) (d : Grouped) → AllByRecursion IsSmall xs → n < 2 ^ 64 → i < length xs → rank (get_or xs i d) ≡ rank the_pair
      → list_any (λ m. m == n) (numbers_among xs g) ≡ true
  has_at [] i d small fits l e = absurd (omega (arith, l))
  has_at (x ∷ xs) zero d small fits l e =
      let same = same_pair x small.0 fits e in
      rw (eq-eqb x.group g same.0, eq-eqb x.number n same.1) refl
  has_at (x ∷ xs) (suc i) d small fits l e =
      let rest = has_at xs i d small.1 fits (omega arith) e in
      elim (cases_Bool (x.group == g)) [
        | inl f ↦ elim (cases_Bool (x.number == n)) [ inl s ↦ rw (f, s) refl | inr s ↦ rw (f, s) rest ]
        | inr f ↦ rw f rest
      ]

  has_none : (xs : List Grouped) → NoneIs (rank the_pair) (map rank xs) → list_any (λ m. m == n) (numbers_among xs g) ≡ false
  has_none [] none = refl
  has_none (x ∷ xs) none =
      let rest = has_none xs none.1 in
      elim (cases_Bool (x.group == g)) [
        | inl f ↦ elim (cases_Bool (x.number == n)) [
          | inl s ↦ absurd (none.0 (omega (arith, eqb-true x.group g f, eqb-true x.number n s)))
          | inr s ↦ rw (f, s) rest
        ]
        | inr f ↦ rw f rest
      ]

  -- ---- the calls

  module _ (xs : List Grouped) (room at : ℕ) (kept : IsKept xs) (fits : n < 2 ^ 64) where
    pub no_such : AllByRecursion (λ m. m < n) (numbers_among xs g) → IsAt rank xs (rank the_pair) at → ⊥
    no_such less here = not_there xs at the_pair kept.small fits less here.within (here.named the_pair)

    pub kept_more : IsGap rank xs (rank the_pair) at → IsKept (insert xs at the_pair)
    kept_more gap = record { order = rising_inserted rank xs at the_pair gap kept.order; small = all_inserted rank IsSmall xs at the_pair kept.small fits }

    pub more : (old : GroupTable) (later : ℕ) → seen xs room ≡ old → room ≤ later → IsGap rank xs (rank the_pair) at → AllByRecursion (λ m. m < n) (numbers_in old g)
        → Adds g n old (seen (insert xs at the_pair) later)
    more old later view grown gap less =
        let less' : AllByRecursion (λ m. m < n) (numbers_among xs g) = subst (λ (o : GroupTable). AllByRecursion (λ m. m < n) (numbers_in o g)) (sym view) less in
        subst (λ (o : GroupTable). Adds g n o (seen (insert xs at the_pair) later)) view (record {
          numbers = λ other. put_among xs at other gap.above less';
          count = length_insert xs at;
          room = grown;
        })

    pub kept_less : IsKept (remove xs at)
    kept_less = record { order = rising_removed rank xs at kept.order; small = all_removed rank IsSmall xs at kept.small }

    pub less : (old : GroupTable) (later : ℕ) → seen xs room ≡ old → room ≤ later → IsAt rank xs (rank the_pair) at → Drops g n old (seen (remove xs at) later)
    less old later view grown here =
        let gone = remove_is_filter rank (rank the_pair) xs at the_pair (rising_differ (map rank xs) kept.order) here.within (here.named the_pair) in
        subst (λ (o : GroupTable). Drops g n o (seen (remove xs at) later)) view (record {
          numbers = λ other. ap (λ (ys : List Grouped). numbers_among ys other) gone ∙ drop_among xs other kept.small fits;
          count = rw (has_at xs at the_pair kept.small fits here.within (here.named the_pair)) (length-remove xs at here.within);
          room = grown;
        })

    pub as_before : (old : GroupTable) → seen xs room ≡ old → IsGap rank xs (rank the_pair) at → Drops g n old (seen xs room)
    as_before old view gap =
        let none = none_named rank (rank the_pair) xs (found_in_gap rank xs (rank the_pair) at gap) in
        subst (λ (o : GroupTable). Drops g n o (seen xs room)) view (record {
          numbers = λ other. ap (λ (ys : List Grouped). numbers_among ys other) (sym (none_out rank (rank the_pair) xs none)) ∙ drop_among xs other kept.small fits;
          count = rw (has_none xs none) (omega arith);
          room = omega arith;
        })
