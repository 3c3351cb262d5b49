-- What is left of the lists where a place is taken out.
use Rattle.std.proofs.Common.{◌≡◌, ◌≢◌, ◌<◌, ◌≤◌, ◌-◌, ◌==◌, ℕ, true, false, List, [], ◌∷◌, map, length, get_or, find, Option, Some, None, refl, sym, ap, ◌∙◌, subst, arith, inl, inr}
use Rattle.std.proofs.Math.ListN.{set}
use Rattle.std.specs.List.{remove}
use Rattle.std.proofs.lemmas.Bool.{cases_Bool, eqb-true, ne_eqb, eq-eqb}
use Rattle.slot_chain.specs.declared.heads.Head.{Head}
use Rattle.slot_chain.specs.Linked.{Puts, NoneIs, AllDiffer, last_of, walk, IsPath, IsOwned, IsHead, IsKept, uid_of, has_uid, rest_of, places_of, found_places, list_of}
use Rattle.slot_chain.specs.Table.{without, is_in}
use Rattle.slot_chain.proofs.Numbers.{differ_fewer, all_stay, left_in, left_out, length_without, in_behind, not_in_none}
use Rattle.slot_chain.proofs.Paths.{length_walk, path_after, path_before, other_owned, owned_fewer, owned_in, last_stays, IsCut, cut_last, cut_inner, Owns, ahead_owned, behind_owned}
use Rattle.slot_chain.proofs.Ordering.{rising_differ, found_set, keys_set, all_set, rising_removed, all_removed, found_removed}
use Rattle.slot_chain.proofs.HeadLists.{rest_is, head_of_path, IsFound, found_is}
use Rattle.slot_chain.proofs.Keeping.{Stays, stays}

pub record IsDropped (after before owner : List ℕ) (heads : List Head) (room place : ℕ) (was : ℕ → List ℕ) : Type 0 where
  pub kept : IsKept after before owner heads room
  pub lists : (uid : ℕ) → list_of after heads uid ≡ without place (was uid)

module _ (after before owner : List ℕ) (heads : List Head) (room uid place : ℕ) (kept : IsKept after before owner heads room) (i : ℕ) (d head : Head) (inside : i < length heads) (at_is : get_or heads i d ≡ head)
    (found : find (has_uid uid) heads ≡ Some head) (there : is_in place (places_of after head) ≡ true) where
  is : IsFound after before owner uid head
  is = found_is after before owner uid heads head kept.heads_are found

  uids_differ : AllDiffer (map uid_of heads)
  uids_differ = rising_differ (map uid_of heads) kept.uids

  pub owns : Owns owner uid place
  owns = let own = owned_in owner head.uid place (places_of after head) is.head_is.owned there in (own.0, own.1 ∙ is.uid_is)

  -- of another uid's list it is none
  none_of : (k : Head) → IsHead after before owner k → k.uid ≢ uid → NoneIs place (places_of after k)
  none_of k h ne = other_owned owner k.uid place (places_of after k) h.owned (λ e. ne (sym e ∙ owns.1))

  same_uid : uid_of (get_or heads i d) ≡ head.uid
  same_uid = ap uid_of at_is

  rest_long : length (rest_of after head) ≡ head.count - 1
  rest_long = length_walk after (head.count - 1) (get_or after head.oldest 0)

  list_is : (v : ℕ) → (v == uid) ≡ true → find (has_uid v) heads ≡ Some head
  list_is v e = subst (λ (m : ℕ). find (has_uid m) heads ≡ Some head) (sym (eqb-true v uid e)) found

  -- lists of which it is none stay, where each of their heads does
  others_stay : (later : List ℕ) → ((k : Head) → IsHead after before owner k → k.uid ≢ uid → places_of later k ≡ places_of after k) → (v : ℕ) → (v == uid) ≡ false → (o : Option Head) → find (has_uid v) heads ≡ o
      → found_places later o ≡ without place (found_places after o)
  others_stay later same v e None f = refl
  others_stay later same v e (Some k) f =
      let k_is = found_is after before owner v heads k kept.heads_are f in
      let ne : k.uid ≢ uid = (λ (s : k.uid ≡ uid). let t = eq-eqb v uid (sym k_is.uid_is ∙ s) in cc) in
      same k k_is.head_is ne ∙ sym (all_stay place (places_of after k) (none_of k k_is.head_is ne))

  -- ---- the list's only place

  only_place : head.count ≡ 1 → without place (places_of after head) ≡ []
  only_place one =
      let rest : rest_of after head ≡ [] = ap (λ (n : ℕ). walk after (n - 1) (get_or after head.oldest 0)) one in
      let alone : is_in place (head.oldest ∷ []) ≡ true = (let t : is_in place (head.oldest ∷ rest_of after head) ≡ true = there in rw rest at t) in
      rw rest (elim (cases_Bool (head.oldest == place)) [
        | inl e ↦ rw e refl
        | inr e ↦ absurd (not_in_none place (in_behind place head.oldest [] alone e))
      ])

  pub dropped_only : head.count ≡ 1 → IsDropped after before owner (remove heads i) room place (list_of after heads)
  dropped_only one = record {
    kept = record {
      befores = kept.befores;
      owned = kept.owned;
      few = kept.few;
      heads_are = all_removed uid_of (IsHead after before owner) heads i kept.heads_are;
      uids = rising_removed uid_of heads i kept.uids;
      memory = kept.memory;
    };
    lists = λ v. ap (found_places after) (found_removed uid_of heads i d uid v uids_differ inside (same_uid ∙ is.uid_is)) ∙ elim (cases_Bool (v == uid)) [
      | inl e ↦ rw (e, list_is v e) (sym (only_place one))
      | inr e ↦ rw e (others_stay after (λ k h ne. refl) v e (find (has_uid v) heads) refl)
    ];
  }

  -- ---- a list that goes on, from a path of what is left

  record IsLeft (later earlier : List ℕ) (left : Head) : Type 0 where
    pub head_is : IsHead later earlier owner left
    pub places : places_of later left ≡ without place (places_of after head)

  dropped : (later earlier : List ℕ) (left : Head) → left.uid ≡ head.uid → length later ≡ length after → length earlier ≡ length before → IsLeft later earlier left
      → ((k : Head) → IsHead after before owner k → k.uid ≢ uid → Stays later earlier owner (places_of after k) k)
      → IsDropped later earlier owner (set heads i left) room place (list_of after heads)
  dropped later earlier left same long earlier_long is_left stay = record {
    kept = record {
      befores = omega (arith, long, earlier_long, kept.befores);
      owned = omega (arith, long, kept.owned);
      few = omega (arith, long, kept.few);
      heads_are = all_set uid_of (IsHead after before owner) (IsHead later earlier owner) heads i d left (λ k h ne. (stay k h (λ (e : k.uid ≡ uid). ne (e ∙ sym is.uid_is ∙ sym same))).head_is) is_left.head_is uids_differ inside (same_uid ∙ sym same) kept.heads_are;
      uids = rw (keys_set uid_of heads i d left inside (same_uid ∙ sym same)) kept.uids;
      memory = omega (arith, long, kept.memory);
    };
    lists = λ v. ap (found_places later) (found_set uid_of heads i d left v uids_differ inside (same_uid ∙ sym same)) ∙ elim (cases_Bool (v == uid)) [
      | inl e ↦ (let own_uid : (v == left.uid) ≡ true = eq-eqb v left.uid (eqb-true v uid e ∙ sym is.uid_is ∙ sym same) in rw (own_uid, list_is v e) is_left.places)
      | inr e ↦ (let no : (v == left.uid) ≡ false = ne_eqb v left.uid (λ (s : v ≡ left.uid). let t = eq-eqb v uid (s ∙ same ∙ is.uid_is) in cc) in
          rw no (others_stay later (λ k h ne. (stay k h ne).places) v e (find (has_uid v) heads) refl))
    ];
  }

  alone_stays : (k : Head) → IsHead after before owner k → k.uid ≢ uid → Stays after before owner (places_of after k) k
  alone_stays k h ne = record { head_is = h; places = refl }

  -- ---- its first place

  first_left : (qs : List ℕ) → rest_of after head ≡ qs → 1 ≤ length qs → place ≡ head.oldest → IsLeft after before (record head { oldest = get_or after place 0; count = head.count - 1 })
  first_left [] rest some same = absurd (omega (arith, some))
  first_left (q ∷ qs) rest some same =
      let left : Head = record head { oldest = get_or after place 0; count = head.count - 1 } in
      let path : IsPath after before head.oldest (q ∷ qs) = subst (IsPath after before head.oldest) rest is.head_is.path in
      let owned : IsOwned owner head.uid (head.oldest ∷ (q ∷ qs)) = subst (λ (l : List ℕ). IsOwned owner head.uid (head.oldest ∷ l)) rest is.head_is.owned in
      let differ : AllDiffer (head.oldest ∷ (q ∷ qs)) = subst (λ (l : List ℕ). AllDiffer (head.oldest ∷ l)) rest is.head_is.differ in
      let newest : last_of head.oldest (q ∷ qs) ≡ head.newest = subst (λ (l : List ℕ). last_of head.oldest l ≡ head.newest) rest is.head_is.newest in
      let begins : q ≡ get_or after place 0 = sym path.0 ∙ ap (λ (m : ℕ). get_or after m 0) (sym same) in
      let long : length (q ∷ qs) ≡ head.count - 1 = sym (ap length rest) ∙ rest_long in
      let left_long : length qs ≡ (head.count - 1) - 1 = omega (arith, long) in
      let left_path : IsPath after before (get_or after place 0) qs = subst (λ (m : ℕ). IsPath after before m qs) begins path.2 in
      record {
        head_is = head_of_path after before owner left qs (omega (arith, long)) left_path left_long
            (subst (λ (m : ℕ). IsOwned owner head.uid (m ∷ qs)) begins owned.2) (subst (λ (m : ℕ). AllDiffer (m ∷ qs)) begins differ.1) (subst (λ (m : ℕ). last_of m qs ≡ head.newest) begins newest);
        places =
            ap (λ (l : List ℕ). get_or after place 0 ∷ l) (rest_is after before left qs left_path left_long)
            ∙ ap (λ (m : ℕ). m ∷ qs) (sym begins)
            ∙ sym (all_stay place (q ∷ qs) (subst (λ (m : ℕ). NoneIs m (q ∷ qs)) (sym same) differ.0))
            ∙ sym (left_out place head.oldest (q ∷ qs) (eq-eqb head.oldest place (sym same)))
            ∙ ap (λ (l : List ℕ). without place (head.oldest ∷ l)) (sym rest);
      }

  pub dropped_first : head.count ≢ 1 → place ≡ head.oldest → IsDropped after before owner (set heads i (record head { oldest = get_or after place 0; count = head.count - 1 })) room place (list_of after heads)
  dropped_first many same = dropped after before _ refl refl refl (first_left (rest_of after head) refl (omega (arith, rest_long, many, is.head_is.some)) same) alone_stays

  -- ---- its last place

  in_rest : head.oldest ≢ place → is_in place (rest_of after head) ≡ true
  in_rest ne = in_behind place head.oldest (rest_of after head) there (ne_eqb head.oldest place ne)

  less_long : head.oldest ≢ place → length (without place (rest_of after head)) ≡ (head.count - 1) - 1
  less_long ne = omega (arith, rest_long, length_without place (rest_of after head) is.head_is.differ.1 (in_rest ne))

  some_left : head.oldest ≢ place → 0 < head.count - 1
  some_left ne = omega (arith, rest_long, length_without place (rest_of after head) is.head_is.differ.1 (in_rest ne))

  owned_left : head.oldest ≢ place → IsOwned owner head.uid (head.oldest ∷ without place (rest_of after head))
  owned_left ne = (is.head_is.owned.0, is.head_is.owned.1, owned_fewer owner head.uid place (rest_of after head) is.head_is.owned.2)

  differ_left : head.oldest ≢ place → AllDiffer (head.oldest ∷ without place (rest_of after head))
  differ_left ne = subst AllDiffer (left_in place head.oldest (rest_of after head) (ne_eqb head.oldest place ne)) (differ_fewer place (places_of after head) is.head_is.differ)

  places_left : (later earlier : List ℕ) (left : Head) → head.oldest ≢ place → left.oldest ≡ head.oldest → rest_of later left ≡ without place (rest_of after head) → places_of later left ≡ without place (places_of after head)
  places_left later earlier left ne oldest rest = (λ j. oldest j ∷ rest j) ∙ sym (left_in place head.oldest (rest_of after head) (ne_eqb head.oldest place ne))

  last_cut : (qs : List ℕ) → IsPath after before head.oldest qs → AllDiffer qs → is_in place qs ≡ true → last_of head.oldest qs ≡ place → IsCut after before place head.oldest qs
  last_cut [] path differ have last = absurd (not_in_none place have)
  last_cut (q ∷ qs) path differ have last = cut_last after before place head.oldest q qs path differ last

  last_left : head.oldest ≢ place → place ≡ head.newest → IsLeft after before (record head { newest = get_or before place 0; count = head.count - 1 })
  last_left ne same =
      let left : Head = record head { newest = get_or before place 0; count = head.count - 1 } in
      let cut = last_cut (rest_of after head) is.head_is.path is.head_is.differ.1 (in_rest ne) (is.head_is.newest ∙ sym same) in
      record {
        head_is = head_of_path after before owner left (without place (rest_of after head)) (some_left ne) cut.path (less_long ne) (owned_left ne) (differ_left ne) cut.last;
        places = places_left after before left ne refl (rest_is after before left (without place (rest_of after head)) cut.path (less_long ne));
      }

  pub dropped_last : head.oldest ≢ place → place ≡ head.newest → IsDropped after before owner (set heads i (record head { newest = get_or before place 0; count = head.count - 1 })) room place (list_of after heads)
  dropped_last ne same = dropped after before _ refl refl refl (last_left ne same) alone_stays

  -- ---- one between

  pub ahead_is : head.oldest ≢ place → Owns owner head.uid (get_or before place 0)
  ahead_is ne = ahead_owned after before owner head.uid place head.oldest (rest_of after head) is.head_is.path is.head_is.owned (in_rest ne)

  not_last : head.newest ≢ place → last_of head.oldest (rest_of after head) ≢ place
  not_last apart = λ e. apart (sym is.head_is.newest ∙ e)

  pub behind_is : head.oldest ≢ place → head.newest ≢ place → Owns owner head.uid (get_or after place 0)
  behind_is ne apart = behind_owned after before owner head.uid place head.oldest (rest_of after head) is.head_is.path is.head_is.owned.2 (in_rest ne) (not_last apart)

  module _ (later earlier : List ℕ) (ne : head.oldest ≢ place) (apart : head.newest ≢ place) (puts : Puts after later (get_or before place 0) (get_or after place 0)) (long : length later ≡ length after)
      (sets : Puts before earlier (get_or after place 0) (get_or before place 0)) (earlier_long : length earlier ≡ length before) where
    inner_left : IsLeft later earlier (record head { count = head.count - 1 })
    inner_left =
        let left : Head = record head { count = head.count - 1 } in
        let path = cut_inner after later before earlier place head.oldest (rest_of after head) puts sets is.head_is.path is.head_is.differ (in_rest ne) (not_last apart) in
        record {
          head_is = head_of_path later earlier owner left (without place (rest_of after head)) (some_left ne) path (less_long ne) (owned_left ne) (differ_left ne)
              (last_stays place head.oldest (rest_of after head) is.head_is.differ.1 (not_last apart) ∙ is.head_is.newest);
          places = places_left later earlier left ne refl (rest_is later earlier left (without place (rest_of after head)) path (less_long ne));
        }

    inner_stays : (k : Head) → IsHead after before owner k → k.uid ≢ uid → Stays later earlier owner (places_of after k) k
    inner_stays k h other =
        let first : NoneIs (get_or before place 0) (places_of after k) = other_owned owner k.uid (get_or before place 0) (places_of after k) h.owned (λ e. other (sym e ∙ (ahead_is ne).1 ∙ is.uid_is)) in
        let second : NoneIs (get_or after place 0) (places_of after k) = other_owned owner k.uid (get_or after place 0) (places_of after k) h.owned (λ e. other (sym e ∙ (behind_is ne apart).1 ∙ is.uid_is)) in
        let one = path_after after later before (get_or before place 0) (get_or after place 0) k.oldest (rest_of after k) puts first h.path in
        stays after before owner later earlier owner k h (path_before later before earlier (get_or after place 0) (get_or before place 0) k.oldest (rest_of after k) sets second.1 one) h.owned

    pub dropped_inner : IsDropped later earlier owner (set heads i (record head { count = head.count - 1 })) room place (list_of after heads)
    dropped_inner = dropped later earlier _ refl long earlier_long inner_left inner_stays
