-- Lists in the order of a number: what a halving finds, and what an edit at its place does.
use Rattle.std.proofs.Common.{◌≡◌, ◌≢◌, ◌<◌, ◌≤◌, ◌==◌, ℕ, zero, suc, Bool, false, not, cond, List, [], ◌∷◌, map, filter, length, get_or, find, Some, None, Result, Ok, Err, IfOk, IfErr, refl, sym, ap, ◌∙◌, subst, arith, inl, inr}
use Rattle.std.proofs.Math.ListN.{set}
use Rattle.std.specs.List.{AllByRecursion, insert, remove}
use Rattle.std.specs.List.Sorted.{IsSearchInRange, IsBinarySearchResult, IsNonDecreasingBy}
use Rattle.std.specs.Ordering.{nat_cmp, ordering_index}
use Rattle.std.proofs.lemmas.Cmp.{ranked}
use Rattle.std.proofs.lemmas.Bool.{cases_Bool, eqb-true, ne_eqb, eq-eqb}
use Rattle.std.proofs.lemmas.Bool.Decides.{nat_tests}
use Rattle.slot_chain.specs.Linked.{NoneIs, AllDiffer}
use Rattle.slot_chain.specs.Ordered.{IsAbove, IsRising, IsOrdered, IsAt, IsGap}

-- ---- numbers that rise

none_below : (n : ℕ) (ks : List ℕ) → IsAbove n ks → NoneIs n ks
none_below n [] h = tt
none_below n (k ∷ ks) h = ((λ (e : k ≡ n). omega (arith, h.0)), none_below n ks h.1)

pub rising_differ : (ks : List ℕ) → IsRising ks → AllDiffer ks
rising_differ [] h = tt
rising_differ (k ∷ ks) h = (none_below k ks h.0, rising_differ ks h.1)

above_less : (m n : ℕ) (ks : List ℕ) → m < n → IsAbove n ks → IsAbove m ks
above_less m n [] l h = tt
above_less m n (k ∷ ks) l h = (omega (arith, h.0), above_less m n ks l h.1)

module _ {A : Type 0} (key : A → ℕ) where
  abbrev pub has : ℕ → A → Bool
  has n x = key x == n

  above_at : (n : ℕ) (xs : List A) (j : ℕ) (d : A) → IsAbove n (map key xs) → j < length xs → n < key (get_or xs j d)
  above_at n [] j d h l = absurd (omega arith)
  above_at n (x ∷ xs) zero d h l = h.0
  above_at n (x ∷ xs) (suc j) d h l = above_at n xs j d h.1 (omega arith)

  pub rising_at : (xs : List A) (i j : ℕ) (d : A) → IsOrdered key xs → i < j → j < length xs → key (get_or xs i d) < key (get_or xs j d)
  rising_at [] i j d h l within = absurd (omega arith)
  rising_at (x ∷ xs) i zero d h l within = absurd (omega arith)
  rising_at (x ∷ xs) zero (suc j) d h l within = above_at (key x) xs j d h.0 (omega arith)
  rising_at (x ∷ xs) (suc i) (suc j) d h l within = rising_at xs i j d h.1 (omega arith) (omega arith)

  pub record Searched (xs : List A) (n : ℕ) (r : Result ℕ ℕ) : Type 0 where
    pub found : IfOk r (IsAt key xs n)
    pub absent : IfErr r (IsGap key xs n)

  module _ (xs : List A) (order : IsOrdered key xs) (n : ℕ) where
    comparisons_rise : IsNonDecreasingBy (λ x. ordering_index (nat_cmp (key x) n)) xs
    comparisons_rise i j d le within =
        let rise : key (get_or xs i d) ≤ key (get_or xs j d) = grind (arith, rising_at xs i j d order, λ (same : i ≡ j). ap (λ (m : ℕ). key (get_or xs m d)) same) in
        grind (arith, nat_tests)

    -- a binary search by the number ends where it stands, or where it would go
    pub searched : (r : Result ℕ ℕ) → IsSearchInRange r (length xs) → IsBinarySearchResult (λ x. nat_cmp (key x) n) xs r → Searched xs n r
    searched (Ok at) within equal = record { found = record { within = within; named = λ d. ranked _ n _ (sym (equal d)) }; absent = tt }
    searched (Err at) within parted = record {
      found = tt;
      absent = record {
        within = within;
        below = λ j d less. ranked _ n _ (sym ((parted comparisons_rise).0 j d (omega arith) less));
        above = λ j d le less. ranked _ n _ (sym ((parted comparisons_rise).1 j d le less));
      };
    }

  -- ---- what a look-up finds

  at_behind : (x : A) (xs : List A) (n i : ℕ) → IsAt key (x ∷ xs) n (suc i) → IsAt key xs n i
  at_behind x xs n i h = record { within = omega (arith, h.within); named = h.named }

  gap_behind : (x : A) (xs : List A) (n i : ℕ) → IsGap key (x ∷ xs) n (suc i) → IsGap key xs n i
  gap_behind x xs n i h = record { within = omega (arith, h.within); below = λ j d l. h.below (suc j) d (omega arith); above = λ j d le l. h.above (suc j) d (omega arith) (omega arith) }

  pub none_at : (n : ℕ) (xs : List A) (i : ℕ) (d : A) → NoneIs n (map key xs) → i < length xs → key (get_or xs i d) ≢ n
  none_at n [] i d h l = absurd (omega arith)
  none_at n (x ∷ xs) zero d h l = h.0
  none_at n (x ∷ xs) (suc i) d h l = none_at n xs i d h.1 (omega arith)

  pub not_found : (n : ℕ) (xs : List A) → NoneIs n (map key xs) → find (has n) xs ≡ None
  not_found n [] h = refl
  not_found n (x ∷ xs) h = rw (ne_eqb (key x) n h.0) (not_found n xs h.1)

  -- none has the number
  pub none_named : (n : ℕ) (xs : List A) → find (has n) xs ≡ None → NoneIs n (map key xs)
  none_named n [] h = tt
  none_named n (x ∷ xs) h = elim (cases_Bool (key x == n)) [
    | inl e ↦ absurd (let h' : Some x ≡ None = rw e at h in cc)
    | inr e ↦ ((λ (s : key x ≡ n). absurd (let t = eq-eqb (key x) n s in cc)), none_named n xs (rw e at h))
  ]

  pub found_at : (xs : List A) (n i : ℕ) (d : A) → AllDiffer (map key xs) → IsAt key xs n i → find (has n) xs ≡ Some (get_or xs i d)
  found_at [] n i d differ h = absurd (omega (arith, h.within))
  found_at (x ∷ xs) n zero d differ h = rw (eq-eqb (key x) n (h.named d)) refl
  found_at (x ∷ xs) n (suc i) d differ h =
      let behind = at_behind x xs n i h in
      let other : key x ≢ n = (λ (e : key x ≡ n). none_at (key x) xs i d differ.0 behind.within (behind.named d ∙ sym e)) in
      rw (ne_eqb (key x) n other) (found_at xs n i d differ.1 behind)

  gap_none : (xs : List A) (n i : ℕ) → IsGap key xs n i → NoneIs n (map key xs)
  gap_none [] n i h = tt
  gap_none (x ∷ xs) n zero h = ((λ (e : key x ≡ n). omega (arith, h.above 0 x (omega arith) (omega arith))), gap_none xs n zero (record { within = omega arith; below = λ j d l. absurd (omega arith); above = λ j d le l. h.above (suc j) d (omega arith) (omega arith) }))
  gap_none (x ∷ xs) n (suc i) h = ((λ (e : key x ≡ n). omega (arith, h.below 0 x (omega arith))), gap_none xs n i (gap_behind x xs n i h))

  pub found_in_gap : (xs : List A) (n i : ℕ) → IsGap key xs n i → find (has n) xs ≡ None
  found_in_gap xs n i h = not_found n xs (gap_none xs n i h)

  -- ---- one is written over, by one of its number

  pub found_set : (xs : List A) (i : ℕ) (d x : A) (v : ℕ) → AllDiffer (map key xs) → i < length xs → key (get_or xs i d) ≡ key x
      → find (has v) (set xs i x) ≡ cond (v == key x) (Some x) (find (has v) xs)
  found_set [] i d x v differ within same = absurd (omega arith)
  found_set (k ∷ ks) zero d x v differ within same = elim (cases_Bool (v == key x)) [
    | inl e ↦ rw (e, eq-eqb (key x) v (sym (eqb-true v (key x) e))) refl
    | inr e ↦ (let other : (key x == v) ≡ false = ne_eqb (key x) v (λ (s : key x ≡ v). let t = eq-eqb v (key x) (sym s) in cc) in
        let old : (key k == v) ≡ false = ap (λ (m : ℕ). m == v) same ∙ other in
        rw (e, other, old) refl)
  ]
  found_set (k ∷ ks) (suc i) d x v differ within same =
      let later = found_set ks i d x v differ.1 (omega arith) same in
      let apart : key k ≢ key x = (λ (s : key k ≡ key x). none_at (key k) ks i d differ.0 (omega arith) (same ∙ sym s)) in
      elim (cases_Bool (key k == v)) [
        | inl e ↦ (let other : (v == key x) ≡ false = ne_eqb v (key x) (λ (s : v ≡ key x). apart (eqb-true (key k) v e ∙ s)) in rw (e, other) refl)
        | inr e ↦ rw e later
      ]

  pub keys_set : (xs : List A) (i : ℕ) (d x : A) → i < length xs → key (get_or xs i d) ≡ key x → map key (set xs i x) ≡ map key xs
  keys_set [] i d x within same = absurd (omega arith)
  keys_set (k ∷ ks) zero d x within same = ap (λ (m : ℕ). m ∷ map key ks) (sym same)
  keys_set (k ∷ ks) (suc i) d x within same = ap (λ (l : List ℕ). key k ∷ l) (keys_set ks i d x (omega arith) same)

  module _ (P Q : A → Type 0) where
    -- what holds of the one that is written, and of the others as it did
    pub all_set : (xs : List A) (i : ℕ) (d x : A) → ((k : A) → P k → key k ≢ key x → Q k) → Q x → AllDiffer (map key xs) → i < length xs → key (get_or xs i d) ≡ key x
        → AllByRecursion P xs → AllByRecursion Q (set xs i x)
    all_set [] i d x keep is differ within same all = absurd (omega arith)
    all_set (k ∷ ks) zero d x keep is differ within same all =
        (is, all_other ks (subst (λ (m : ℕ). NoneIs m (map key ks)) same differ.0) all.1)
      where
        all_other : (js : List A) → NoneIs (key x) (map key js) → AllByRecursion P js → AllByRecursion Q js
        all_other [] none rest = tt
        all_other (j ∷ js) none rest = (keep j rest.0 none.0, all_other js none.1 rest.1)
    all_set (k ∷ ks) (suc i) d x keep is differ within same all =
        let apart : key k ≢ key x = (λ (s : key k ≡ key x). none_at (key k) ks i d differ.0 (omega arith) (same ∙ sym s)) in
        (keep k all.0 apart, all_set ks i d x keep is differ.1 (omega arith) same all.1)

    -- what holds of all that have another number
    pub all_others : (n : ℕ) (js : List A) → ((k : A) → P k → key k ≢ n → Q k) → NoneIs n (map key js) → AllByRecursion P js → AllByRecursion Q js
    all_others n [] keep none rest = tt
    all_others n (j ∷ js) keep none rest = (keep j rest.0 none.0, all_others n js keep none.1 rest.1)

  -- ---- one more, where it goes

  above_inserted : (m : ℕ) (xs : List A) (i : ℕ) (x : A) → IsAbove m (map key xs) → m < key x → IsAbove m (map key (insert xs i x))
  above_inserted m xs zero x h l = (l, h)
  above_inserted m [] (suc i) x h l = (l, tt)
  above_inserted m (k ∷ ks) (suc i) x h l = (h.0, above_inserted m ks i x h.1 l)

  above_first : (m : ℕ) (ks : List A) → ((j : ℕ) (d : A) → j < length ks → m < key (get_or ks j d)) → IsAbove m (map key ks)
  above_first m [] h = tt
  above_first m (k ∷ ks) h = (h 0 k (omega arith), above_first m ks (λ j d l. h (suc j) d (omega arith)))

  pub rising_inserted : (xs : List A) (i : ℕ) (x : A) → IsGap key xs (key x) i → IsOrdered key xs → IsOrdered key (insert xs i x)
  rising_inserted xs zero x gap h = (above_first (key x) xs (λ j d l. gap.above j d (omega arith) l), h)
  rising_inserted [] (suc i) x gap h = (tt, tt)
  rising_inserted (k ∷ ks) (suc i) x gap h =
      (above_inserted (key k) ks i x h.0 (gap.below 0 k (omega arith)), rising_inserted ks i x (gap_behind k ks (key x) i gap) h.1)

  pub found_inserted : (xs : List A) (i : ℕ) (x : A) (v : ℕ) → NoneIs (key x) (map key xs) → find (has v) (insert xs i x) ≡ cond (v == key x) (Some x) (find (has v) xs)
  found_inserted xs zero x v none = elim (cases_Bool (v == key x)) [
    | inl e ↦ rw (e, eq-eqb (key x) v (sym (eqb-true v (key x) e))) refl
    | inr e ↦ (let other : (key x == v) ≡ false = ne_eqb (key x) v (λ (s : key x ≡ v). let t = eq-eqb v (key x) (sym s) in cc) in rw (e, other) refl)
  ]
  found_inserted [] (suc i) x v none = elim (cases_Bool (v == key x)) [
    | inl e ↦ rw (e, eq-eqb (key x) v (sym (eqb-true v (key x) e))) refl
    | inr e ↦ (let other : (key x == v) ≡ false = ne_eqb (key x) v (λ (s : key x ≡ v). let t = eq-eqb v (key x) (sym s) in cc) in rw (e, other) refl)
  ]
  found_inserted (k ∷ ks) (suc i) x v none = elim (cases_Bool (key k == v)) [
    | inl e ↦ (let other : (v == key x) ≡ false = ne_eqb v (key x) (λ (s : v ≡ key x). none.0 (eqb-true (key k) v e ∙ s)) in rw (e, other) refl)
    | inr e ↦ rw e (found_inserted ks i x v none.1)
  ]

  pub all_inserted : (P : A → Type 0) (xs : List A) (i : ℕ) (x : A) → AllByRecursion P xs → P x → AllByRecursion P (insert xs i x)
  all_inserted P xs zero x all is = (is, all)
  all_inserted P [] (suc i) x all is = (is, tt)
  all_inserted P (k ∷ ks) (suc i) x all is = (all.0, all_inserted P ks i x all.1 is)

  -- ---- one less

  none_removed : (xs : List A) (i : ℕ) (n : ℕ) → NoneIs n (map key xs) → NoneIs n (map key (remove xs i))
  none_removed [] zero n none = tt
  none_removed [] (suc i) n none = tt
  none_removed (k ∷ ks) zero n none = none.1
  none_removed (k ∷ ks) (suc i) n none = (none.0, none_removed ks i n none.1)

  pub differ_removed : (xs : List A) (i : ℕ) → AllDiffer (map key xs) → AllDiffer (map key (remove xs i))
  differ_removed [] zero differ = tt
  differ_removed [] (suc i) differ = tt
  differ_removed (k ∷ ks) zero differ = differ.1
  differ_removed (k ∷ ks) (suc i) differ = (none_removed ks i (key k) differ.0, differ_removed ks i differ.1)

  above_removed : (xs : List A) (i : ℕ) (n : ℕ) → IsAbove n (map key xs) → IsAbove n (map key (remove xs i))
  above_removed [] zero n h = tt
  above_removed [] (suc i) n h = tt
  above_removed (k ∷ ks) zero n h = h.1
  above_removed (k ∷ ks) (suc i) n h = (h.0, above_removed ks i n h.1)

  pub rising_removed : (xs : List A) (i : ℕ) → IsOrdered key xs → IsOrdered key (remove xs i)
  rising_removed [] zero h = tt
  rising_removed [] (suc i) h = tt
  rising_removed (k ∷ ks) zero h = h.1
  rising_removed (k ∷ ks) (suc i) h = (above_removed ks i (key k) h.0, rising_removed ks i h.1)

  pub all_removed : (P : A → Type 0) (xs : List A) (i : ℕ) → AllByRecursion P xs → AllByRecursion P (remove xs i)
  all_removed P [] zero all = tt
  all_removed P [] (suc i) all = tt
  all_removed P (k ∷ ks) zero all = all.1
  all_removed P (k ∷ ks) (suc i) all = (all.0, all_removed P ks i all.1)

  pub found_removed : (xs : List A) (i : ℕ) (d : A) (n v : ℕ) → AllDiffer (map key xs) → i < length xs → key (get_or xs i d) ≡ n
      → find (has v) (remove xs i) ≡ cond (v == n) None (find (has v) xs)
  found_removed [] i d n v differ within same = absurd (omega arith)
  found_removed (k ∷ ks) zero d n v differ within same = elim (cases_Bool (v == n)) [
    | inl e ↦ rw e (not_found v ks (subst (λ (m : ℕ). NoneIs m (map key ks)) (same ∙ sym (eqb-true v n e)) differ.0))
    | inr e ↦ (let other : (key k == v) ≡ false = ne_eqb (key k) v (λ (s : key k ≡ v). let t = eq-eqb v n (sym s ∙ same) in cc) in rw (e, other) refl)
  ]
  found_removed (k ∷ ks) (suc i) d n v differ within same =
      let later = found_removed ks i d n v differ.1 (omega arith) same in
      let apart : key k ≢ n = (λ (s : key k ≡ n). none_at (key k) ks i d differ.0 (omega arith) (same ∙ sym s)) in
      elim (cases_Bool (key k == v)) [
        | inl e ↦ (let other : (v == n) ≡ false = ne_eqb v n (λ (s : v ≡ n). apart (eqb-true (key k) v e ∙ s)) in rw (e, other) refl)
        | inr e ↦ rw e later
      ]

  -- ---- what an edit of the one that has a number is of them all

  pub none_changed : (n : ℕ) (f : A → A) (xs : List A) → NoneIs n (map key xs) → map (λ x. cond (key x == n) (f x) x) xs ≡ xs
  none_changed n f [] h = refl
  none_changed n f (x ∷ xs) h = rw (ne_eqb (key x) n h.0) (ap (λ (l : List A). x ∷ l) (none_changed n f xs h.1))

  pub set_is_change : (n : ℕ) (f : A → A) (xs : List A) (i : ℕ) (d : A) → AllDiffer (map key xs) → i < length xs → key (get_or xs i d) ≡ n → set xs i (f (get_or xs i d)) ≡ map (λ x. cond (key x == n) (f x) x) xs
  set_is_change n f [] i d h l e = absurd (omega arith)
  set_is_change n f (x ∷ xs) zero d h l e = rw (eq-eqb (key x) n e) (ap (λ (l : List A). f x ∷ l) (sym (none_changed n f xs (subst (λ (k : ℕ). NoneIs k (map key xs)) e h.0))))
  set_is_change n f (x ∷ xs) (suc i) d h l e =
      let other : key x ≢ n = (λ (s : key x ≡ n). none_at (key x) xs i d h.0 (omega arith) (e ∙ sym s)) in
      rw (ne_eqb (key x) n other) (ap (λ (l : List A). x ∷ l) (set_is_change n f xs i d h.1 (omega arith) e))

  pub none_out : (n : ℕ) (xs : List A) → NoneIs n (map key xs) → filter (λ x. not (key x == n)) xs ≡ xs
  none_out n [] h = refl
  none_out n (x ∷ xs) h = rw (ne_eqb (key x) n h.0) (ap (λ (l : List A). x ∷ l) (none_out n xs h.1))

  pub remove_is_filter : (n : ℕ) (xs : List A) (i : ℕ) (d : A) → AllDiffer (map key xs) → i < length xs → key (get_or xs i d) ≡ n → remove xs i ≡ filter (λ x. not (key x == n)) xs
  remove_is_filter n [] i d h l e = absurd (omega arith)
  remove_is_filter n (x ∷ xs) zero d h l e = rw (eq-eqb (key x) n e) (sym (none_out n xs (subst (λ (k : ℕ). NoneIs k (map key xs)) e h.0)))
  remove_is_filter n (x ∷ xs) (suc i) d h l e =
      let other : key x ≢ n = (λ (s : key x ≡ n). none_at (key x) xs i d h.0 (omega arith) (e ∙ sym s)) in
      rw (ne_eqb (key x) n other) (ap (λ (l : List A). x ∷ l) (remove_is_filter n xs i d h.1 (omega arith) e))
