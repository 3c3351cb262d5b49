-- Comparing the oldest idle operation of each owner is enough: of the idle operations of one uid the oldest goes first.
use Rattle.std.proofs.Common.{◌≡◌, ◌<◌, ◌≤◌, ◌+◌, ◌*◌, ◌-◌, ◌⊎◌, ◌==◌, ◌&&◌, ◌||◌, nat_lt, nat_le, ℕ, Bool, true, false, cond, List, [], ◌∷◌, length, slice_get, map, find, Option, Some, None, is_some, IsSome, IfSome, refl, sym, ap, ◌∙◌, inl, inr, arith, subst}
use Rattle.std.specs.List.{filter_map, list_all}
use Rattle.std.proofs.lemmas.List.Folds.{fold-map}
use Rattle.std.proofs.lemmas.Bool.{cases_Bool, cases_lt, eqb-true, eq-eqb, ne_eqb, and_parts}
use Rattle.std.proofs.lemmas.Bool.Decides.{nat_tests}
use Rattle.operation_slots.specs.declared.operation.SlotOperation.{SlotOperation}
use Rattle.slot_chain.specs.Linked.{NoneIs, AllDiffer}
use Rattle.operation_slots.specs.Table.{SlotTable, operations_of, owners_of, is_idle, is_idle_of, is_of, has_number, has_idle, IsLater, IsSound, IsOldestIdle, stamps_of, numbers_of, held, idle_value}
use Rattle.operation_slots.specs.Table as slots
use Rattle.pruning.specs.declared.choice.Candidate.{Candidate}
use Rattle.pruning.specs.Victim.{binary_digits, candidate, candidates, goes_before, open_of}
use Rattle.pruning.specs.Facts.{facts, open_facts}
use Rattle.pruning.specs.Choice.{earlier, IsFirst, IsOldestOfOwner}
use Rattle.pruning.proofs.DigitCount.{digits_of_older}
use Rattle.pruning.proofs.Members.{In, at_member, found_in, only_found, all_pass, each_passes, some_passes, at_place, is_counted, none_found}

-- ---- the order

-- a test by malus and stamp, as `goes_before` is
abbrev before : ℕ → ℕ → ℕ → ℕ → Bool
before m s n t = nat_lt n m || ((m == n) && nat_le s t)

before_trans : (m s n t p u : ℕ) → before m s n t ≡ true → before n t p u ≡ true → before m s p u ≡ true
before_trans m s n t p u h k = grind (arith, nat_tests)

before_total : (m s n t : ℕ) → before m s n t ≡ false → before n t m s ≡ true
before_total m s n t h = grind (arith, nat_tests)

before_anti : (m s n t : ℕ) → before m s n t ≡ true → before n t m s ≡ true → (m ≡ n) × (s ≡ t)
before_anti m s n t h k = (grind (arith, nat_tests), grind (arith, nat_tests))

before_older : (m s n t : ℕ) → n ≤ m → s ≤ t → before m s n t ≡ true
before_older m s n t h k = grind (arith, nat_tests)

same_candidate : (n m t : ℕ) (c : Candidate) → n ≡ c.number → m ≡ c.malus → t ≡ c.touched → record { number = n; malus = m; touched = t } ≡ c
same_candidate n m t c e f g = rw (e, f, g) refl

module _ {T : Type 0} where
  -- ---- the candidates

  -- an idle operation as it is compared
  abbrev pub compared : SlotTable T → ℕ → SlotOperation T → Candidate
  compared table now o = record { number = o.number; malus = slots.open_of table o.uid + binary_digits (now - o.stamp); touched = o.stamp }

  -- the facts count what the slots count
  pub counts : (table : SlotTable T) (uid : ℕ) → open_of (open_facts table) uid ≡ slots.open_of table uid
  counts table uid = fold-map (λ n o. n + cond (o.uid == uid) 1 0) facts 0 (operations_of table)

  candidate_is : (table : SlotTable T) (now : ℕ) (o : SlotOperation T) → is_idle o ≡ true → candidate (open_facts table) now (facts o) ≡ Some (compared table now o)
  candidate_is table now o e = rw (e, counts table o.uid) refl

  no_candidate : (table : SlotTable T) (now : ℕ) (o : SlotOperation T) → is_idle o ≡ false → candidate (open_facts table) now (facts o) ≡ None
  no_candidate table now o e = rw e refl

  -- the candidates are the idle operations as they are compared
  is_candidate : (table : SlotTable T) (now : ℕ) (os : List (SlotOperation T)) (o : SlotOperation T) → In o os → is_idle o ≡ true → In (compared table now o) (filter_map (candidate (open_facts table) now) (map facts os))
  is_candidate table now [] o i e = absurd i
  is_candidate table now (p ∷ ps) o (inl s) e = rw (candidate_is table now p (rw s e)) (inl (ap (compared table now) s))
  is_candidate table now (p ∷ ps) o (inr i) e = elim (cases_Bool (is_idle p)) [
    | inl t ↦ rw (candidate_is table now p t) (inr (is_candidate table now ps o i e))
    | inr f ↦ rw (no_candidate table now p f) (is_candidate table now ps o i e)
  ]

  -- a candidate and the operation that it is
  record Compared (table : SlotTable T) (now : ℕ) (os : List (SlotOperation T)) (c : Candidate) : Type 0 where
    pub operation : SlotOperation T
    pub within : In operation os
    pub idle : is_idle operation ≡ true
    pub is : compared table now operation ≡ c

  further : (table : SlotTable T) (now : ℕ) (p : SlotOperation T) (ps : List (SlotOperation T)) (c : Candidate) → Compared table now ps c → Compared table now (p ∷ ps) c
  further table now p ps c r = record { operation = r.operation; within = inr r.within; idle = r.idle; is = r.is }

  is_compared : (table : SlotTable T) (now : ℕ) (os : List (SlotOperation T)) (c : Candidate) → In c (filter_map (candidate (open_facts table) now) (map facts os)) → Compared table now os c
  is_compared table now [] c i = absurd i
  is_compared table now (p ∷ ps) c i = elim (cases_Bool (is_idle p)) [
    | inl t ↦ (let j : (compared table now p ≡ c) ⊎ In c (filter_map (candidate (open_facts table) now) (map facts ps)) = rw (candidate_is table now p t) at i in
        elim j [ inl s ↦ record { operation = p; within = inl refl; idle = t; is = s } | inr k ↦ further table now p ps c (is_compared table now ps c k) ])
    | inr f ↦ further table now p ps c (is_compared table now ps c (rw (no_candidate table now p f) at i))
  ]

  -- ---- one owner

  -- the oldest idle operation of an owner is one of the idle ones
  record IsFound (table : SlotTable T) (now uid : ℕ) (c : Candidate) : Type 0 where
    pub operation : SlotOperation T
    pub within : In operation (operations_of table)
    pub idle : is_idle operation ≡ true
    pub uid_is : operation.uid ≡ uid
    pub is : compared table now operation ≡ c

  found_oldest : (table : SlotTable T) (now place : ℕ) (c : Candidate) (o : IsOldestOfOwner table now place c) → IsFound table now o.uid c
  found_oldest table now place c o =
      let found = found_in (has_number c.number) (operations_of table) o.oldest.operation o.oldest.found in
      let parts = and_parts (is_of o.uid o.oldest.operation) (is_idle o.oldest.operation) o.oldest.idle in
      record {
        operation = o.oldest.operation;
        within = found.0;
        idle = parts.1;
        uid_is = eqb-true o.oldest.operation.uid o.uid parts.0;
        is = same_candidate _ _ _ c
            (eqb-true o.oldest.operation.number c.number found.1)
            (rw (eqb-true o.oldest.operation.uid o.uid parts.0, o.oldest.stamp_is) (sym o.malus_is))
            o.oldest.stamp_is;
      }

  -- Within one uid the oldest has the greatest malus: as many operations of the uid are open, and its age has no fewer digits. So it
  -- goes before each other idle operation of its owner.
  oldest_goes_first : (table : SlotTable T) (now place : ℕ) (c : Candidate) (oldest : IsOldestOfOwner table now place c) (o : SlotOperation T) → In o (operations_of table) → is_idle o ≡ true → o.uid ≡ oldest.uid → goes_before c (compared table now o) ≡ true
  oldest_goes_first table now place c oldest o i e s =
      let stamps : c.touched ≤ o.stamp = at_member (λ p. is_idle_of oldest.uid p ≡ true → c.touched ≤ p.stamp) o (operations_of table) oldest.oldest.oldest i (rw (eq-eqb o.uid oldest.uid s) e) in
      let digits = digits_of_older (now - o.stamp) (now - c.touched) (omega arith) in
      before_older c.malus c.touched (slots.open_of table o.uid + binary_digits (now - o.stamp)) o.stamp (rw s (omega (arith, oldest.malus_is, digits))) stamps

  -- ---- the walk over the owners

  -- it is idle, and goes before the idle operations of the first owners
  pub record GoesFirst (table : SlotTable T) (now count : ℕ) (c : Candidate) : Type 0 where
    pub operation : SlotOperation T
    pub within : In operation (operations_of table)
    pub idle : is_idle operation ≡ true
    pub is : compared table now operation ≡ c
    pub before_all : (k : ℕ) (o : SlotOperation T) → k < count → In o (operations_of table) → is_idle o ≡ true → slice_get (owners_of table) k ≡ Some o.uid → goes_before c (compared table now o) ≡ true

  abbrev pub FirstSoFar : SlotTable T → ℕ → ℕ → Option Candidate → Type 0
  FirstSoFar table now count None = count ≡ 0
  FirstSoFar table now count (Some c) = GoesFirst table now count c

  pub record Walked (table : SlotTable T) (now count : ℕ) (first : Option Candidate) (steps_before steps : ℕ) : Type 0 where
    pub first_is : FirstSoFar table now count first
    pub later : steps_before ≤ steps
    pub few : steps ≤ steps_before + count

  -- of this owner's idle operations it goes first
  this_owner : (table : SlotTable T) (now count : ℕ) (c : Candidate) (oldest : IsOldestOfOwner table now count c) (k : ℕ) (o : SlotOperation T) → k ≡ count → In o (operations_of table) → is_idle o ≡ true → slice_get (owners_of table) k ≡ Some o.uid → goes_before c (compared table now o) ≡ true
  this_owner table now count c oldest k o s i e owner =
      let here : Some o.uid ≡ Some oldest.uid = sym owner ∙ ap (slice_get (owners_of table)) s ∙ oldest.owner in
      oldest_goes_first table now count c oldest o i e cc

  pub one_more : (table : SlotTable T) (now count : ℕ) (first : Option Candidate) (c : Candidate) → FirstSoFar table now count first → IsOldestOfOwner table now count c → GoesFirst table now (count + 1) (earlier first c)
  one_more table now count None c so oldest =
      let found = found_oldest table now count c oldest in
      record {
        operation = found.operation;
        within = found.within;
        idle = found.idle;
        is = found.is;
        before_all = λ k o l i e owner. this_owner table now count c oldest k o (omega arith) i e owner;
      }
  one_more table now count (Some f) c so oldest = elim (cases_Bool (goes_before f c)) [
    | inl t ↦ rw t (record {
      operation = so.operation;
      within = so.within;
      idle = so.idle;
      is = so.is;
      before_all = λ k o l i e owner. elim (cases_lt k count) [
        | inl less ↦ so.before_all k o less i e owner
        | inr more ↦ before_trans f.malus f.touched c.malus c.touched (compared table now o).malus (compared table now o).touched t (this_owner table now count c oldest k o (omega arith) i e owner)
      ];
    })
    | inr n ↦ (let found = found_oldest table now count c oldest in rw n (record {
      operation = found.operation;
      within = found.within;
      idle = found.idle;
      is = found.is;
      before_all = λ k o l i e owner. elim (cases_lt k count) [
        | inl less ↦ before_trans c.malus c.touched f.malus f.touched (compared table now o).malus (compared table now o).touched (before_total f.malus f.touched c.malus c.touched n) (so.before_all k o less i e owner)
        | inr more ↦ this_owner table now count c oldest k o (omega arith) i e owner
      ];
    }))
  ]

  no_stamp : (q : SlotOperation T) (qs : List (SlotOperation T)) (p : SlotOperation T) → NoneIs q.stamp (stamps_of qs) → In p qs → q.stamp ≡ p.stamp → ⊥
  no_stamp q [] p h i e = i
  no_stamp q (r ∷ rs) p h (inl s) e = h.0 (ap (λ o. o.stamp) s ∙ sym e)
  no_stamp q (r ∷ rs) p h (inr i) e = no_stamp q rs p h.1 i e

  -- two with one stamp are one
  same_by_stamp : (os : List (SlotOperation T)) (o p : SlotOperation T) → AllDiffer (stamps_of os) → In o os → In p os → o.stamp ≡ p.stamp → o ≡ p
  same_by_stamp [] o p h i j e = absurd i
  same_by_stamp (q ∷ qs) o p h (inl s) (inl t) e = sym s ∙ t
  same_by_stamp (q ∷ qs) o p h (inl s) (inr j) e = absurd (no_stamp q qs p h.0 j (ap (λ r. r.stamp) s ∙ e))
  same_by_stamp (q ∷ qs) o p h (inr i) (inl t) e = absurd (no_stamp q qs o h.0 i (ap (λ r. r.stamp) t ∙ sym e))
  same_by_stamp (q ∷ qs) o p h (inr i) (inr j) e = same_by_stamp qs o p h.1 i j e

  -- ---- all owners

  -- each owner has an idle operation, and the uid of an idle operation is an owner
  pub owner_has_idle : (table : SlotTable T) (k u : ℕ) → IsSound table → slice_get (owners_of table) k ≡ Some u → has_idle table u ≡ true
  owner_has_idle table k u sound at = elim (cases_Bool (has_idle table u)) [
    | inl t ↦ t
    | inr f ↦ absurd (let none = rw f at (sound.owners u) in omega (arith, none, is_counted u (owners_of table) k at))
  ]

  covered : (table : SlotTable T) (o : SlotOperation T) → IsSound table → In o (operations_of table) → is_idle o ≡ true → (k : ℕ) × (k < length (owners_of table)) × (slice_get (owners_of table) k ≡ Some o.uid)
  covered table o sound i e =
      let some : has_idle table o.uid ≡ true = some_passes (is_idle_of o.uid) (operations_of table) o i (rw (eq-eqb o.uid o.uid refl, e) refl) in
      let one = rw some at (sound.owners o.uid) in
      at_place o.uid (owners_of table) (omega (arith, one))

  -- a stamp that is held is less than this step's
  pub oldest_is_earlier : (table : SlotTable T) (now uid number stamp : ℕ) → IsLater table now → IsOldestIdle table uid number stamp → stamp < now
  oldest_is_earlier table now uid number stamp later oldest =
      let found = found_in (has_number number) (operations_of table) oldest.operation oldest.found in
      omega (arith, at_member (λ o. o.stamp < now) oldest.operation (operations_of table) later found.0, oldest.stamp_is)

  goes_before_each : (table : SlotTable T) (now : ℕ) (c : Candidate) (count : ℕ) → IsSound table → count ≡ length (owners_of table) → GoesFirst table now count c → (x : Candidate) → In x (candidates (open_facts table) now) → goes_before c x ≡ true
  goes_before_each table now c count sound e so x i =
      let r = is_compared table now (operations_of table) x i in
      let at = covered table r.operation sound r.within r.idle in
      let goes = so.before_all at.0 r.operation (omega (arith, at.1)) r.within r.idle at.2 in
      subst (λ (y : Candidate). goes_before c y ≡ true) r.is goes

  only_one : (table : SlotTable T) (now : ℕ) (c : Candidate) (count : ℕ) → AllDiffer (stamps_of (operations_of table)) → GoesFirst table now count c → (y : Candidate) → In y (candidates (open_facts table) now) → goes_before y c ≡ true → goes_before c y ≡ true → y ≡ c
  only_one table now c count differ so y i there back =
      let r = is_compared table now (operations_of table) y i in
      let same = before_anti y.malus y.touched c.malus c.touched there back in
      let stamps : r.operation.stamp ≡ so.operation.stamp = ap (λ (x : Candidate). x.touched) r.is ∙ same.1 ∙ sym (ap (λ (x : Candidate). x.touched) so.is) in
      sym r.is ∙ ap (compared table now) (same_by_stamp (operations_of table) r.operation so.operation differ r.within so.within stamps) ∙ so.is

  pub first_of_all : (table : SlotTable T) (now : ℕ) (first : Option Candidate) (count : ℕ) → IsSound table → count ≡ length (owners_of table) → FirstSoFar table now count first → IsFirst table now first
  first_of_all table now None count sound e so =
      sym (none_found (λ a. list_all (goes_before a) (candidates (open_facts table) now)) (candidates (open_facts table) now) (λ x i.
      let r = is_compared table now (operations_of table) x i in
      let at = covered table r.operation sound r.within r.idle in
      omega (arith, at.1)))
  first_of_all table now (Some c) count sound e so =
      let all = candidates (open_facts table) now in
      let among : In c all = rw (← so.is) (is_candidate table now (operations_of table) so.operation so.within so.idle) in
      let each : (x : Candidate) → In x all → goes_before c x ≡ true = λ x i. goes_before_each table now c count sound e so x i in
      sym (only_found (λ a. list_all (goes_before a) all) all c among (all_pass (goes_before c) all each) (λ y i t. only_one table now c count sound.stamps so y i (each_passes (goes_before y) all c t among) (each y i)))

  -- ---- what goes first is idle

  no_number : (q : SlotOperation T) (qs : List (SlotOperation T)) (p : SlotOperation T) → NoneIs q.number (numbers_of qs) → In p qs → q.number ≡ p.number → ⊥
  no_number q [] p h i e = i
  no_number q (r ∷ rs) p h (inl s) e = h.0 (ap (λ o. o.number) s ∙ sym e)
  no_number q (r ∷ rs) p h (inr i) e = no_number q rs p h.1 i e

  found_at : (os : List (SlotOperation T)) (o : SlotOperation T) → AllDiffer (numbers_of os) → In o os → find (has_number o.number) os ≡ Some o
  found_at [] o h i = absurd i
  found_at (q ∷ qs) o h (inl s) = rw (ap (λ r. r.number == o.number) s ∙ eq-eqb o.number o.number refl) (ap Some s)
  found_at (q ∷ qs) o h (inr i) = rw (ne_eqb q.number o.number (no_number q qs o h.0 i)) (found_at qs o h.1 i)

  value_there : (o : Option T) → is_some o ≡ true → IsSome o
  value_there None e = cc
  value_there (Some v) e = e

  pub first_is_idle : (table : SlotTable T) (now count : ℕ) (first : Option Candidate) → IsSound table → FirstSoFar table now count first → IfSome first (λ c. IsSome (idle_value (held table c.number)))
  first_is_idle table now count None sound so = tt
  first_is_idle table now count (Some c) sound so =
      let number : so.operation.number ≡ c.number = ap (λ (x : Candidate). x.number) so.is in
      let found = found_at (operations_of table) so.operation sound.numbers so.within in
      rw (← number, found) (value_there so.operation.value so.idle)
