-- What each call leaves of the lists.
use Rattle.std.proofs.Common.{◌≡◌, ◌≢◌, ◌<◌, ◌≤◌, ◌+◌, ◌-◌, ◌==◌, ℕ, suc, true, false, cond, List, [], ◌∷◌, ◌++◌, map, length, get_or, find, Option, Some, None, refl, sym, ap, ◌∙◌, subst, arith, inl, inr, length-append}
use Rattle.std.proofs.Math.ListN.{set}
use Rattle.std.specs.List.{AllByRecursion, insert}
use Rattle.std.proofs.lemmas.Bool.{cases_Bool, eqb-true, ne_eqb, eq-eqb}
use Rattle.slot_chain.specs.declared.heads.Head.{Head}
use Rattle.slot_chain.specs.Linked.{Puts, new_head, NoneIs, AllDiffer, last_of, IsPath, IsOwned, IsHead, IsKept, uid_of, has_uid, rest_of, places_of, found_places, list_of}
use Rattle.slot_chain.proofs.Numbers.{AllUnder, bounded, differ_more, last_more}
use Rattle.slot_chain.proofs.Paths.{put_there, length_walk, path_after, path_before, owned_put, other_owned, path_last, path_more, owned_more}
use Rattle.slot_chain.specs.Ordered.{IsGap}
use Rattle.slot_chain.proofs.Ordering.{rising_differ, not_found, none_named, found_in_gap, found_set, keys_set, all_set, all_others, rising_inserted, found_inserted, all_inserted}
use Rattle.slot_chain.proofs.HeadLists.{rest_is, head_of_path, IsFound, found_is}

-- ---- a head that is left alone

pub record Stays (after before owner : List ℕ) (was : List ℕ) (head : Head) : Type 0 where
  pub head_is : IsHead after before owner head
  pub places : places_of after head ≡ was

pub stays : (after before owner later earlier owned : List ℕ) (head : Head) → IsHead after before owner head → IsPath later earlier head.oldest (rest_of after head) → IsOwned owned head.uid (places_of after head)
    → Stays later earlier owned (places_of after head) head
stays after before owner later earlier owned head is path owns =
    let long : length (rest_of after head) ≡ head.count - 1 = length_walk after (head.count - 1) (get_or after head.oldest 0) in
    record {
      head_is = head_of_path later earlier owned head (rest_of after head) is.some path long owns is.differ is.newest;
      places = ap (λ (l : List ℕ). head.oldest ∷ l) (rest_is later earlier head (rest_of after head) path long);
    }

-- a head of which a place is none
pub record IsFree (after before owner : List ℕ) (place : ℕ) (head : Head) : Type 0 where
  pub head_is : IsHead after before owner head
  pub free : NoneIs place (places_of after head)

free_rest : (after : List ℕ) (place : ℕ) (k : Head) (ks : List Head) → NoneIs k.uid (map uid_of ks) → ((uid : ℕ) → NoneIs place (list_of after (k ∷ ks) uid)) → (uid : ℕ) → NoneIs place (list_of after ks uid)
free_rest after place k ks none free uid = elim (cases_Bool (has_uid uid k)) [
  | inl e ↦ (let gone : find (has_uid uid) ks ≡ None = not_found uid_of uid ks (subst (λ (m : ℕ). NoneIs m (map uid_of ks)) (eqb-true k.uid uid e) none) in rw gone tt)
  | inr e ↦ (let all : NoneIs place (found_places after (find (has_uid uid) (k ∷ ks))) = free uid in rw e at all)
]

pub all_free : (after before owner : List ℕ) (place : ℕ) (heads : List Head) → AllByRecursion (IsHead after before owner) heads → AllDiffer (map uid_of heads) → ((uid : ℕ) → NoneIs place (list_of after heads uid)) → AllByRecursion (IsFree after before owner place) heads
all_free after before owner place [] all differ free = tt
all_free after before owner place (k ∷ ks) all differ free =
    let own : NoneIs place (found_places after (find (has_uid k.uid) (k ∷ ks))) = free k.uid in
    (record { head_is = all.0; free = rw (eq-eqb k.uid k.uid refl) at own }, all_free after before owner place ks all.1 differ.1 (free_rest after place k ks differ.0 free))

last_owned : (owner : List ℕ) (uid p : ℕ) (qs : List ℕ) → IsOwned owner uid (p ∷ qs) → get_or owner (last_of p qs) 0 ≡ uid
last_owned owner uid p [] h = h.1
last_owned owner uid p (q ∷ qs) h = last_owned owner uid q qs h.2

pub last_within : (owner : List ℕ) (uid p : ℕ) (qs : List ℕ) → IsOwned owner uid (p ∷ qs) → last_of p qs < length owner
last_within owner uid p [] h = h.0
last_within owner uid p (q ∷ qs) h = last_within owner uid q qs h.2

-- ---- how many heads there are

oldest_of : Head → ℕ
oldest_of head = head.oldest

oldest_none : (after before owner : List ℕ) (n uid : ℕ) (heads : List Head) → get_or owner n 0 ≡ uid → NoneIs uid (map uid_of heads) → AllByRecursion (IsHead after before owner) heads → NoneIs n (map oldest_of heads)
unfolding oldest_of
oldest_none after before owner n uid [] is none all = tt
oldest_none after before owner n uid (k ∷ ks) is none all =
    ((λ (e : k.oldest ≡ n). none.0 (sym all.0.owned.1 ∙ ap (λ (m : ℕ). get_or owner m 0) e ∙ is)), oldest_none after before owner n uid ks is none.1 all.1)

oldest_differ : (after before owner : List ℕ) (heads : List Head) → AllDiffer (map uid_of heads) → AllByRecursion (IsHead after before owner) heads → AllDiffer (map oldest_of heads)
unfolding oldest_of
oldest_differ after before owner [] differ all = tt
oldest_differ after before owner (k ∷ ks) differ all = (oldest_none after before owner k.oldest k.uid ks all.0.owned.1 differ.0 all.1, oldest_differ after before owner ks differ.1 all.1)

oldest_under : (after before owner : List ℕ) (heads : List Head) → AllByRecursion (IsHead after before owner) heads → AllUnder (length owner) (map oldest_of heads)
unfolding oldest_of
oldest_under after before owner [] all = tt
oldest_under after before owner (k ∷ ks) all = (all.0.owned.0, oldest_under after before owner ks all.1)

place_none : (after before owner : List ℕ) (place : ℕ) (heads : List Head) → AllByRecursion (IsFree after before owner place) heads → NoneIs place (map oldest_of heads)
unfolding oldest_of
place_none after before owner place [] all = tt
place_none after before owner place (k ∷ ks) all = (all.0.free.0, place_none after before owner place ks all.1)

length_oldest : (heads : List Head) → length (map oldest_of heads) ≡ length heads
length_oldest [] = refl
length_oldest (k ∷ ks) = ap suc (length_oldest ks)

-- a place that is in no list leaves room for one more head
pub heads_few : (after before owner : List ℕ) (place : ℕ) (heads : List Head) → AllByRecursion (IsHead after before owner) heads → AllByRecursion (IsFree after before owner place) heads → AllDiffer (map uid_of heads) → place < length owner
    → length heads < length owner
heads_few after before owner place heads all free differ within =
    let few = bounded (length owner) (place ∷ map oldest_of heads) (place_none after before owner place heads free, oldest_differ after before owner heads differ all) (within, oldest_under after before owner heads all) in
    omega (arith, few, length_oldest heads)

-- ---- a place comes into a list

pub record IsPushed (after before owner : List ℕ) (heads : List Head) (room : ℕ) (uid place : ℕ) (was : ℕ → List ℕ) : Type 0 where
  pub kept : IsKept after before owner heads room
  pub lists : (other : ℕ) → list_of after heads other ≡ cond (other == uid) (was other ++ place ∷ []) (was other)

module _ (after before owner : List ℕ) (heads : List Head) (room uid place : ℕ) (kept : IsKept after before owner heads room) (within : place < length after) (free : (other : ℕ) → NoneIs place (list_of after heads other)) where
  differ : AllDiffer (map uid_of heads)
  differ = rising_differ (map uid_of heads) kept.uids

  pub frees : AllByRecursion (IsFree after before owner place) heads
  frees = all_free after before owner place heads kept.heads_are differ free

  -- of a new head
  module _ (owned : List ℕ) (puts : Puts owner owned place uid) (long : length owned ≡ length owner) (later : ℕ) (more : room ≤ later) (at : ℕ) (gap : IsGap uid_of heads uid at) where
    fresh : find (has_uid uid) heads ≡ None
    fresh = found_in_gap uid_of heads uid at gap

    keeps_free : (k : Head) → IsFree after before owner place k → k.uid ≢ uid → IsHead after before owned k
    keeps_free k is ne = (stays after before owner after before owned k is.head_is is.head_is.path (owned_put owner owned place uid k.uid (places_of after k) puts long is.free is.head_is.owned)).head_is

    new_is : IsHead after before owned (new_head uid place)
    new_is = record {
      some = omega arith;
      path = tt;
      owned = (omega (arith, within, long, kept.owned), put_there owner owned place uid puts place refl, tt);
      differ = (tt, tt);
      newest = refl;
    }

    pub pushed_new : IsPushed after before owned (insert heads at (new_head uid place)) later uid place (list_of after heads)
    pushed_new =
        let none : NoneIs uid (map uid_of heads) = none_named uid_of uid heads fresh in
        record {
          kept = record {
            befores = kept.befores;
            owned = long ∙ kept.owned;
            few = kept.few;
            heads_are = all_inserted uid_of (IsHead after before owned) heads at (new_head uid place) (all_others uid_of (IsFree after before owner place) (IsHead after before owned) uid heads keeps_free none frees) new_is;
            uids = rising_inserted uid_of heads at (new_head uid place) gap kept.uids;
            memory = omega (arith, kept.memory, more);
          };
          lists = λ other. ap (found_places after) (found_inserted uid_of heads at (new_head uid place) other none) ∙ elim (cases_Bool (other == uid)) [
            | inl e ↦ (let gone : find (has_uid other) heads ≡ None = subst (λ (m : ℕ). find (has_uid m) heads ≡ None) (sym (eqb-true other uid e)) fresh in rw (e, gone) refl)
            | inr e ↦ rw e refl
          ];
        }

  -- of a head that is there
  module _ (owned links earlier : List ℕ) (i : ℕ) (d head : Head) (inside : i < length heads) (at_is : get_or heads i d ≡ head) (found : find (has_uid uid) heads ≡ Some head)
      (puts : Puts owner owned place uid) (long : length owned ≡ length owner) (behind : Puts after links head.newest place) (links_long : length links ≡ length after) (ahead : Puts before earlier place head.newest) (earlier_long : length earlier ≡ length before) where
    is : IsFound after before owner uid head
    is = found_is after before owner uid heads head kept.heads_are found

    own : NoneIs place (places_of after head)
    own = let own' : NoneIs place (list_of after heads uid) = free uid in rw found at own'

    more_head : Head
    more_head = record head { newest = place; count = head.count + 1 }

    rest_long : length (rest_of after head) ≡ head.count - 1
    rest_long = length_walk after (head.count - 1) (get_or after head.oldest 0)

    path : IsPath links earlier head.oldest (rest_of after head ++ place ∷ [])
    path =
        let qs = rest_of after head in
        let h = is.head_is in
        let first : IsPath links before head.oldest qs = path_last after links before head.newest place head.oldest qs behind h.newest h.differ h.path in
        let second : IsPath links earlier head.oldest qs = path_before links before earlier place head.newest head.oldest qs ahead own.1 first in
        path_more links earlier place head.oldest qs second (put_there after links head.newest place behind (last_of head.oldest qs) h.newest) (put_there before earlier place head.newest ahead place refl ∙ sym h.newest)

    more_long : length (rest_of after head ++ place ∷ []) ≡ (head.count + 1) - 1
    more_long = omega (arith, rest_long, is.head_is.some, length-append (rest_of after head) (place ∷ []))

    owns : IsOwned owned head.uid (places_of after head ++ place ∷ [])
    owns = owned_more owned head.uid place (places_of after head) (owned_put owner owned place uid head.uid (places_of after head) puts long own is.head_is.owned) (omega (arith, within, long, kept.owned)) (put_there owner owned place uid puts place refl ∙ sym is.uid_is)

    more_is : IsHead links earlier owned more_head
    unfolding more_head
    more_is = head_of_path links earlier owned (record head { newest = place; count = head.count + 1 }) (rest_of after head ++ place ∷ []) (omega arith) path more_long owns (differ_more place (places_of after head) is.head_is.differ own) (last_more head.oldest place (rest_of after head))

    more_places : places_of links more_head ≡ places_of after head ++ place ∷ []
    unfolding more_head
    more_places = ap (λ (l : List ℕ). head.oldest ∷ l) (rest_is links earlier (record head { newest = place; count = head.count + 1 }) (rest_of after head ++ place ∷ []) path more_long)

    newest_owned : get_or owner head.newest 0 ≡ uid
    newest_owned = ap (λ (m : ℕ). get_or owner m 0) (sym is.head_is.newest) ∙ last_owned owner head.uid head.oldest (rest_of after head) is.head_is.owned ∙ is.uid_is

    other : (k : Head) → IsFree after before owner place k → k.uid ≢ uid → Stays links earlier owned (places_of after k) k
    other k f ne =
        let apart : NoneIs head.newest (places_of after k) = other_owned owner k.uid head.newest (places_of after k) f.head_is.owned (λ e. ne (sym e ∙ newest_owned)) in
        let first : IsPath links before k.oldest (rest_of after k) = path_after after links before head.newest place k.oldest (rest_of after k) behind apart f.head_is.path in
        stays after before owner links earlier owned k f.head_is (path_before links before earlier place head.newest k.oldest (rest_of after k) ahead f.free.1 first) (owned_put owner owned place uid k.uid (places_of after k) puts long f.free f.head_is.owned)

    same_uid : uid_of (get_or heads i d) ≡ head.uid
    same_uid = ap uid_of at_is

    pub pushed_old : IsPushed links earlier owned (set heads i (record head { newest = place; count = head.count + 1 })) room uid place (list_of after heads)
    unfolding more_head
    pushed_old = record {
      kept = record {
        befores = omega (arith, links_long, earlier_long, kept.befores);
        owned = omega (arith, links_long, long, kept.owned);
        few = omega (arith, links_long, kept.few);
        heads_are = all_set uid_of (IsFree after before owner place) (IsHead links earlier owned) heads i d more_head (λ k f ne. (other k f (λ (e : k.uid ≡ uid). ne (e ∙ sym is.uid_is))).head_is) more_is differ inside same_uid frees;
        uids = rw (keys_set uid_of heads i d more_head inside same_uid) kept.uids;
        memory = omega (arith, links_long, kept.memory);
      };
      lists = λ v. ap (found_places links) (found_set uid_of heads i d more_head v differ inside same_uid) ∙ elim (cases_Bool (v == uid)) [
        | inl e ↦ (let own_uid : (v == head.uid) ≡ true = eq-eqb v head.uid (eqb-true v uid e ∙ sym is.uid_is) in
            let there : find (has_uid v) heads ≡ Some head = subst (λ (m : ℕ). find (has_uid m) heads ≡ Some head) (sym (eqb-true v uid e)) found in
            rw (own_uid, e, there) more_places)
        | inr e ↦ (let no : (v == head.uid) ≡ false = ne_eqb v head.uid (λ (s : v ≡ head.uid). let t = eq-eqb v uid (s ∙ is.uid_is) in cc) in
            rw (no, e) (others v e (find (has_uid v) heads) refl))
      ];
    } where
      others : (v : ℕ) → (v == uid) ≡ false → (o : Option Head) → find (has_uid v) heads ≡ o → found_places links o ≡ found_places after o
      others v e None f = refl
      others v e (Some k) f =
          let k_is = found_is after before owner v heads k kept.heads_are f in
          let none : NoneIs place (places_of after k) = (let all : NoneIs place (list_of after heads v) = free v in rw f at all) in
          (other k (record { head_is = k_is.head_is; free = none }) (λ (s : k.uid ≡ uid). let t = eq-eqb v uid (sym k_is.uid_is ∙ s) in cc)).places
