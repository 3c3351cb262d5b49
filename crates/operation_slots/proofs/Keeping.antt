-- What is kept of the list stays so after each call.
use Rattle.std.proofs.Common.{◌≡◌, ◌≢◌, ◌<◌, ◌≤◌, ℕ, suc, Bool, not, List, [], ◌∷◌, ◌++◌, length, map, filter, find, Some, None, All, if◌then◌else◌, refl, sym, ap, inl, inr, arith, subst, length-append}
use Rattle.std.proofs.lemmas.List.Elements.{All-head, All-tail, All-push, All-map, All-weaker, All-filter}
use Rattle.std.proofs.lemmas.List.Sums.{length-filter, count_by-le-length}
use Rattle.std.proofs.lemmas.Bool.{cases_Bool, eqb-true}
use Rattle.operation_slots.specs.declared.operation.SlotOperation.{SlotOperation}
use Rattle.slot_chain.specs.Linked.{NoneIs, AllDiffer}
use Rattle.operation_slots.specs.Table.{has_number, idle_value, with_change, made_busy, given_back, without, numbers_of, stamps_of}
use Rattle.operation_slots.specs.Boards.{IsHeld}
use Rattle.operation_slots.proofs.Lists.{not_found, unchanged}

none_more : (n k : ℕ) (ks : List ℕ) → NoneIs n ks → k ≢ n → NoneIs n (ks ++ k ∷ [])
none_more n k [] h ne = (ne, tt)
none_more n k (j ∷ js) h ne = (h.0, none_more n k js h.1 ne)

differ_more : (k : ℕ) (ks : List ℕ) → AllDiffer ks → NoneIs k ks → AllDiffer (ks ++ k ∷ [])
differ_more k [] h none = (tt, tt)
differ_more k (j ∷ js) h none = (none_more j k js h.0 (λ e. none.0 (sym e)), differ_more k js h.1 none.1)

module _ {T : Type 0} where
  key_more : (key : SlotOperation T → ℕ) (xs : List (SlotOperation T)) (x : SlotOperation T) → map key (xs ++ x ∷ []) ≡ map key xs ++ key x ∷ []
  key_more key [] x = refl
  key_more key (y ∷ ys) x = ap (λ ks. key y ∷ ks) (key_more key ys x)

  -- a change that leaves a key leaves all keys
  key_same : (key : SlotOperation T → ℕ) (n : ℕ) (f : SlotOperation T → SlotOperation T) → ((o : SlotOperation T) → key (f o) ≡ key o) → (xs : List (SlotOperation T)) → map key (with_change n f xs) ≡ map key xs
  key_same key n f same [] = refl
  key_same key n f same (x ∷ xs) = elim (cases_Bool (has_number n x)) [
    | inl e ↦ rw (e, same x, key_same key n f same xs) refl
    | inr e ↦ rw (e, key_same key n f same xs) refl
  ]

  length_change : (n : ℕ) (f : SlotOperation T → SlotOperation T) (xs : List (SlotOperation T)) → length (with_change n f xs) ≡ length xs
  length_change n f [] = refl
  length_change n f (x ∷ xs) = ap suc (length_change n f xs)

  none_later : (s : ℕ) (xs : List (SlotOperation T)) → All (λ o. o.stamp < s) xs → NoneIs s (stamps_of xs)
  none_later s [] h = tt
  none_later s (x ∷ xs) h = ((λ (e : x.stamp ≡ s). omega (arith, All-head (λ o. o.stamp < s) x xs h)), none_later s xs (All-tail (λ o. o.stamp < s) x xs h))

  -- a stamp that none has, and that is not the new one, none has after the return
  none_given : (k n s : ℕ) (v : T) (xs : List (SlotOperation T)) → NoneIs k (stamps_of xs) → s ≢ k → NoneIs k (stamps_of (with_change n (given_back s v) xs))
  none_given k n s v [] h ne = tt
  none_given k n s v (x ∷ xs) h ne = elim (cases_Bool (has_number n x)) [
    | inl e ↦ rw e (ne, none_given k n s v xs h.1 ne)
    | inr e ↦ rw e (h.0, none_given k n s v xs h.1 ne)
  ]

  stamps_given : (n s : ℕ) (v : T) (xs : List (SlotOperation T)) → AllDiffer (numbers_of xs) → AllDiffer (stamps_of xs) → All (λ o. o.stamp < s) xs → AllDiffer (stamps_of (with_change n (given_back s v) xs))
  stamps_given n s v [] numbers stamps later = tt
  stamps_given n s v (x ∷ xs) numbers stamps later =
      let rest = All-tail (λ o. o.stamp < s) x xs later in
      let first : x.stamp < s = All-head (λ o. o.stamp < s) x xs later in
      elim (cases_Bool (has_number n x)) [
        | inl e ↦ (let none : NoneIs n (numbers_of xs) = subst (λ (k : ℕ). NoneIs k (numbers_of xs)) (eqb-true x.number n e) numbers.0 in
            rw (e, unchanged n (given_back s v) xs none) (none_later s xs rest, stamps.1))
        | inr e ↦ rw e (none_given x.stamp n s v xs stamps.0 (λ (q : s ≡ x.stamp). omega arith), stamps_given n s v xs numbers.1 stamps.1 rest)
      ]

  -- of fewer operations what holds of all holds
  none_fewer : (key : SlotOperation T → ℕ) (p : SlotOperation T → Bool) (k : ℕ) (xs : List (SlotOperation T)) → NoneIs k (map key xs) → NoneIs k (map key (filter p xs))
  none_fewer key p k [] h = tt
  none_fewer key p k (x ∷ xs) h = elim (cases_Bool (p x)) [
    | inl e ↦ rw e (h.0, none_fewer key p k xs h.1)
    | inr e ↦ rw e (none_fewer key p k xs h.1)
  ]

  differ_fewer : (key : SlotOperation T → ℕ) (p : SlotOperation T → Bool) (xs : List (SlotOperation T)) → AllDiffer (map key xs) → AllDiffer (map key (filter p xs))
  differ_fewer key p [] h = tt
  differ_fewer key p (x ∷ xs) h = elim (cases_Bool (p x)) [
    | inl e ↦ rw e (none_fewer key p (key x) xs h.0, differ_fewer key p xs h.1)
    | inr e ↦ rw e (differ_fewer key p xs h.1)
  ]

  -- ---- the calls

  pub kept_begun : (xs : List (SlotOperation T)) (capacity : ℕ) (x : SlotOperation T) → IsHeld xs capacity → find (has_number x.number) xs ≡ None → All (λ o. o.stamp < x.stamp) xs → length xs < capacity → IsHeld (xs ++ x ∷ []) capacity
  kept_begun xs capacity x kept fresh newest free = record {
    numbers = rw (key_more (λ o. o.number) xs x) (differ_more x.number (numbers_of xs) kept.numbers (not_found x.number xs fresh));
    stamps = rw (key_more (λ o. o.stamp) xs x) (differ_more x.stamp (stamps_of xs) kept.stamps (none_later x.stamp xs newest));
    some = kept.some;
    few = kept.few;
    within = simp length-append (omega arith);
  }

  pub kept_taken : (xs : List (SlotOperation T)) (capacity n : ℕ) → IsHeld xs capacity → IsHeld (with_change n made_busy xs) capacity
  kept_taken xs capacity n kept = record {
    numbers = rw (key_same (λ o. o.number) n made_busy (λ o. refl) xs) kept.numbers;
    stamps = rw (key_same (λ o. o.stamp) n made_busy (λ o. refl) xs) kept.stamps;
    some = kept.some;
    few = kept.few;
    within = rw (length_change n made_busy xs) kept.within;
  }

  pub kept_given : (xs : List (SlotOperation T)) (capacity n s : ℕ) (v : T) → IsHeld xs capacity → All (λ o. o.stamp < s) xs → IsHeld (with_change n (given_back s v) xs) capacity
  kept_given xs capacity n s v kept newest = record {
    numbers = rw (key_same (λ o. o.number) n (given_back s v) (λ o. refl) xs) kept.numbers;
    stamps = stamps_given n s v xs kept.numbers kept.stamps newest;
    some = kept.some;
    few = kept.few;
    within = rw (length_change n (given_back s v) xs) kept.within;
  }

  fewer : (p : SlotOperation T → Bool) (xs : List (SlotOperation T)) → length (filter p xs) ≤ length xs
  fewer p xs = omega (arith, length-filter p xs, count_by-le-length p xs)

  pub kept_fewer : (p : SlotOperation T → Bool) (xs : List (SlotOperation T)) (capacity : ℕ) → IsHeld xs capacity → IsHeld (filter p xs) capacity
  kept_fewer p xs capacity kept = record {
    numbers = differ_fewer (λ o. o.number) p xs kept.numbers;
    stamps = differ_fewer (λ o. o.stamp) p xs kept.stamps;
    some = kept.some;
    few = kept.few;
    within = omega (arith, fewer p xs, kept.within);
  }

  pub kept_without : (xs : List (SlotOperation T)) (capacity n : ℕ) → IsHeld xs capacity → IsHeld (without n xs) capacity
  kept_without xs capacity n kept = kept_fewer (λ o. not (has_number n o)) xs capacity kept

  -- an idle operation that is taken out leaves fewer
  pub one_fewer : (n : ℕ) (xs : List (SlotOperation T)) (v : T) → idle_value (find (has_number n) xs) ≡ Some v → length (without n xs) < length xs
  one_fewer n [] v e = cc
  one_fewer n (x ∷ xs) v e = elim (cases_Bool (has_number n x)) [
    | inl a ↦ rw a (let few = fewer (λ o. not (has_number n o)) xs in omega (arith, few))
    | inr a ↦ rw a (let few = one_fewer n xs v (rw a at e) in omega (arith, few))
  ]

  -- what is found among fewer was there before
  pub none_of_fewer : (n : ℕ) (p : SlotOperation T → Bool) (xs : List (SlotOperation T)) → find (has_number n) xs ≡ None → find (has_number n) (filter p xs) ≡ None
  none_of_fewer n p [] e = refl
  none_of_fewer n p (x ∷ xs) e = elim (cases_Bool (has_number n x)) [
    | inl a ↦ absurd (let found : Some x ≡ None = rw a at e in cc)
    | inr a ↦ elim (cases_Bool (p x)) [
      | inl k ↦ rw (k, a) (none_of_fewer n p xs (rw a at e))
      | inr k ↦ rw k (none_of_fewer n p xs (rw a at e))
    ]
  ]

  -- ---- stamps that are less than the next one stay so

  pub later_begun : (xs : List (SlotOperation T)) (x : SlotOperation T) (next : ℕ) → All (λ o. o.stamp < next) xs → x.stamp < next → All (λ o. o.stamp < next) (xs ++ x ∷ [])
  later_begun xs x next h l = All-push (λ o. o.stamp < next) xs x h l

  pub later_change : (n : ℕ) (f : SlotOperation T → SlotOperation T) (xs : List (SlotOperation T)) (next : ℕ) → All (λ o. o.stamp < next) xs → ((o : SlotOperation T) → o.stamp < next → (f o).stamp < next) → All (λ o. o.stamp < next) (with_change n f xs)
  later_change n f xs next h l = All-map (λ o. o.stamp < next) (λ o. if has_number n o then f o else o) xs
      (All-weaker (λ o. o.stamp < next) (λ o. (if has_number n o then f o else o).stamp < next) (λ o k. changed o k) xs h) where
        changed : (o : SlotOperation T) → o.stamp < next → (if has_number n o then f o else o).stamp < next
        changed o k = elim (cases_Bool (has_number n o)) [ inl e ↦ rw e (l o k) | inr e ↦ rw e k ]

  pub later_fewer : (p : SlotOperation T → Bool) (xs : List (SlotOperation T)) (next : ℕ) → All (λ o. o.stamp < next) xs → All (λ o. o.stamp < next) (filter p xs)
  later_fewer p xs next h = All-filter p (λ o. o.stamp < next) xs h

  pub later_without : (n : ℕ) (xs : List (SlotOperation T)) (next : ℕ) → All (λ o. o.stamp < next) xs → All (λ o. o.stamp < next) (without n xs)
  later_without n xs next h = later_fewer (λ o. not (has_number n o)) xs next h
