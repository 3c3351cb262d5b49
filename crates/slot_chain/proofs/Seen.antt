-- The lists as contracts see them.
use Rattle.std.proofs.Common.{◌≡◌, ◌<◌, ◌≤◌, ◌-◌, ◌==◌, ℕ, true, false, cond, List, [], ◌∷◌, ◌++◌, map, length, get_or, find, count_by, Option, Some, None, refl, sym, ap, ◌∙◌, subst, arith, inl, inr}
use Rattle.std.specs.List.{AllByRecursion}
use Rattle.std.proofs.lemmas.List.Sums.{sum_by-append}
use Rattle.std.proofs.lemmas.Bool.{cases_Bool, eqb-true, ne_eqb}
use Rattle.slot_chain.specs.declared.heads.Head.{Head}
use Rattle.slot_chain.specs.Ordered.{IsAt, IsGap}
use Rattle.slot_chain.specs.Linked.{NoneIs, AllDiffer, IsOwned, IsHead, IsKept, uid_of, has_uid, found_places, list_of, places_of, rest_of}
use Rattle.slot_chain.specs.Table.{ChainTable, seen, list_in, Pushes, Unlinks, without, IsInNone, IsInOne, is_in, has_place, uid_in, row_of, IsSound}
use Rattle.slot_chain.proofs.Ordering.{rising_differ, found_at, found_in_gap}
use Rattle.slot_chain.proofs.Numbers.{bounded, owned_under, not_in_none}
use Rattle.slot_chain.proofs.Paths.{length_walk, Owns, owned_in}
use Rattle.slot_chain.proofs.HeadLists.{list_seen, found_is}
use Rattle.slot_chain.proofs.Keeping.{IsPushed, last_within}
use Rattle.slot_chain.proofs.Dropping.{IsDropped}

pub pushes_seen : (old : ChainTable) (after links before owner : List ℕ) (heads more : List Head) (room uid place : ℕ) → seen after heads ≡ old → IsPushed links before owner more room uid place (list_of after heads) → length links ≡ length after
    → Pushes old (seen links more) uid place
pushes_seen old after links before owner heads more room uid place e is long = subst (λ o. Pushes o (seen links more) uid place) e (record {
  places = long;
  lists = λ v. list_seen links more v ∙ is.lists v ∙ (λ j. cond (v == uid) (sym (list_seen after heads v) j ++ place ∷ []) (sym (list_seen after heads v) j));
})

pub drops_seen : (old : ChainTable) (after links before owner : List ℕ) (heads fewer : List Head) (room place : ℕ) → seen after heads ≡ old → IsDropped links before owner fewer room place (list_of after heads) → length links ≡ length after
    → Unlinks old (seen links fewer) place
drops_seen old after links before owner heads fewer room place e is long = subst (λ o. Unlinks o (seen links fewer) place) e (record {
  places = long;
  lists = λ v. list_seen links fewer v ∙ is.lists v ∙ ap (without place) (sym (list_seen after heads v));
})

pub free_seen : (old : ChainTable) (after : List ℕ) (heads : List Head) (place : ℕ) → seen after heads ≡ old → IsInNone old place → (uid : ℕ) → NoneIs place (list_of after heads uid)
free_seen old after heads place e free uid = subst (NoneIs place) (sym (ap (λ o. list_in o uid) e) ∙ list_seen after heads uid) (free uid)

pub newest_within : (after before owner : List ℕ) (head : Head) → IsHead after before owner head → head.newest < length owner
newest_within after before owner head is = subst (λ (m : ℕ). m < length owner) is.newest (last_within owner head.uid head.oldest (rest_of after head) is.owned)

-- no list has more places than there are
pub count_few : (after before owner : List ℕ) (head : Head) → IsHead after before owner head → head.count ≤ length owner
count_few after before owner head is =
    omega (arith, is.some, length_walk after (head.count - 1) (get_or after head.oldest 0), bounded (length owner) (places_of after head) is.differ (owned_under owner head.uid (places_of after head) is.owned))

-- ---- a place that is in a list

-- the head whose list it is in
pub record IsListed (after before owner : List ℕ) (heads : List Head) (place : ℕ) : Type 0 where
  pub uid : ℕ
  pub head : Head
  pub found : find (has_uid uid) heads ≡ Some head
  pub there : is_in place (places_of after head) ≡ true
  pub owns : Owns owner uid place

listed_by : (after before owner : List ℕ) (heads : List Head) (room place uid : ℕ) → IsKept after before owner heads room → (o : Option Head) → find (has_uid uid) heads ≡ o → is_in place (found_places after o) ≡ true → IsListed after before owner heads place
listed_by after before owner heads room place uid kept None f is = absurd (not_in_none place is)
listed_by after before owner heads room place uid kept (Some head) f is =
    let found = found_is after before owner uid heads head kept.heads_are f in
    let own = owned_in owner head.uid place (places_of after head) found.head_is.owned is in
    record { uid = uid; head = head; found = f; there = is; owns = (own.0, own.1 ∙ found.uid_is) }

pub listed : (old : ChainTable) (after before owner : List ℕ) (heads : List Head) (room place : ℕ) → IsKept after before owner heads room → seen after heads ≡ old → IsInOne old place → IsListed after before owner heads place
listed old after before owner heads room place kept e is =
    listed_by after before owner heads room place is.0 kept (find (has_uid is.0) heads) refl
    (subst (λ (l : List ℕ). is_in place l ≡ true) (sym (ap (λ o. list_in o is.0) e) ∙ list_seen after heads is.0) is.1)

-- its uid's head is found
pub never_absent : (after before owner : List ℕ) (heads : List Head) (place uid at : ℕ) → IsListed after before owner heads place → uid ≡ get_or owner place 0 → IsGap uid_of heads uid at → ⊥
never_absent after before owner heads place uid at is e gap =
    let same : uid ≡ is.uid = e ∙ is.owns.1 in
    let gone : find (has_uid is.uid) heads ≡ None = subst (λ (u : ℕ). find (has_uid u) heads ≡ None) same (found_in_gap uid_of heads uid at gap) in
    let no : ◌≡◌ {A = Option Head} None (Some is.head) = sym gone ∙ is.found in
    cc

pub record IsLocated (after : List ℕ) (heads : List Head) (place index : ℕ) (head : Head) : Type 0 where
  pub uid : ℕ
  pub inside : index < length heads
  pub at_is : get_or heads index head ≡ head
  pub found : find (has_uid uid) heads ≡ Some head
  pub there : is_in place (places_of after head) ≡ true

pub located : (after before owner : List ℕ) (heads : List Head) (room place uid index : ℕ) (head : Head) → IsKept after before owner heads room → IsListed after before owner heads place → uid ≡ get_or owner place 0 → IsAt uid_of heads uid index → head ≡ get_or heads index head
    → IsLocated after heads place index head
located after before owner heads room place uid index head kept is e at at_is =
    let same : uid ≡ is.uid = e ∙ is.owns.1 in
    let found : find (has_uid uid) heads ≡ Some head = found_at uid_of heads uid index head (rising_differ (map uid_of heads) kept.uids) at ∙ ap (λ (h : Head). Some h) (sym at_is) in
    let own : find (has_uid is.uid) heads ≡ Some head = subst (λ (u : ℕ). find (has_uid u) heads ≡ Some head) same found in
    let one : is.head ≡ head = (let s : ◌≡◌ {A = Option Head} (Some is.head) (Some head) = sym is.found ∙ own in cc) in
    record {
      uid = is.uid;
      inside = at.within;
      at_is = sym at_is;
      found = own;
      there = subst (λ (h : Head). is_in place (places_of after h) ≡ true) one is.there;
    }

-- ---- what always holds

found_linked : (after before owner : List ℕ) (uid : ℕ) (heads : List Head) → AllByRecursion (IsHead after before owner) heads → (o : Option Head) → find (has_uid uid) heads ≡ o → AllDiffer (found_places after o) × IsOwned owner uid (found_places after o)
found_linked after before owner uid heads all None f = (tt, tt)
found_linked after before owner uid heads all (Some head) f =
    let is = found_is after before owner uid heads head all f in
    (is.head_is.differ, subst (λ (u : ℕ). IsOwned owner u (places_of after head)) is.uid_is is.head_is.owned)

pub uids_seen : (after : List ℕ) (heads : List Head) → map uid_in (map (row_of after) heads) ≡ map uid_of heads
uids_seen after [] = refl
uids_seen after (k ∷ ks) = ap (λ (l : List ℕ). k.uid ∷ l) (uids_seen after ks)

counted_none : (n : ℕ) (ks : List ℕ) → NoneIs n ks → count_by (λ k. k == n) ks ≡ 0
counted_none n [] h = refl
counted_none n (k ∷ ks) h =
    let split = sum_by-append (λ (m : ℕ). cond (m == n) 1 0) (k ∷ []) ks in
    let other : (k == n) ≡ false = ne_eqb k n h.0 in
    let step = rw other at split in
    omega (arith, step, counted_none n ks h.1)

counted_once : (after : List ℕ) (n : ℕ) (heads : List Head) → AllDiffer (map uid_of heads) → count_by (λ k. k == n) (map uid_of heads) ≡ cond (has_place (found_places after (find (has_uid n) heads))) 1 0
counted_once after n [] h = refl
counted_once after n (k ∷ ks) h = elim (cases_Bool (k.uid == n)) [
  | inl e ↦ (let split = sum_by-append (λ (m : ℕ). cond (m == n) 1 0) (k.uid ∷ []) (map uid_of ks) in
      let step = rw e at split in
      let none = counted_none n (map uid_of ks) (subst (λ (m : ℕ). NoneIs m (map uid_of ks)) (eqb-true k.uid n e) h.0) in
      rw e (omega (arith, step, none)))
  | inr e ↦ (let split = sum_by-append (λ (m : ℕ). cond (m == n) 1 0) (k.uid ∷ []) (map uid_of ks) in
      let step = rw e at split in
      let rest = counted_once after n ks h.1 in
      rw e (omega (arith, step) ∙ rest))
]

pub sound : (after before owner : List ℕ) (heads : List Head) (room : ℕ) → IsKept after before owner heads room → IsSound (seen after heads)
sound after before owner heads room kept = record {
  differ = λ uid. rw (list_seen after heads uid) (linked uid).0;
  apart = λ place one other h k.
      let first = owned_in owner one place (list_of after heads one) (linked one).1 (rw (list_seen after heads one) at h) in
      let second = owned_in owner other place (list_of after heads other) (linked other).1 (rw (list_seen after heads other) at k) in
      sym first.1 ∙ second.1;
  within = λ uid place h. let is = owned_in owner uid place (list_of after heads uid) (linked uid).1 (rw (list_seen after heads uid) at h) in omega (arith, is.0, kept.owned);
  owners = λ uid. rw (uids_seen after heads, list_seen after heads uid) (counted_once after uid heads (rising_differ (map uid_of heads) kept.uids));
} where
  linked : (uid : ℕ) → AllDiffer (list_of after heads uid) × IsOwned owner uid (list_of after heads uid)
  linked uid = found_linked after before owner uid heads kept.heads_are (find (has_uid uid) heads) refl
