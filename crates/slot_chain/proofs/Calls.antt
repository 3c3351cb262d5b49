-- What each call leaves, as contracts see it.
use Rattle.std.proofs.Common.{◌≡◌, ◌≢◌, ◌<◌, ◌≤◌, ◌+◌, ◌-◌, ◌^◌, ℕ, zero, suc, List, [], ◌∷◌, map, length, get_or, find, Some, None, refl, sym, ap, ◌∙◌, subst, arith}
use Rattle.std.proofs.Math.ListN.{set}
use Rattle.std.specs.List.{insert, remove, slice_get}
use Rattle.std.proofs.lemmas.List.{length-map}
use Rattle.slot_chain.specs.declared.heads.Head.{Head}
use Rattle.slot_chain.specs.declared.links.ChainLink.{ChainLink}
use Rattle.slot_chain.specs.Ordered.{IsAt, IsGap}
use Rattle.slot_chain.specs.Linked.{Puts, NoneIs, IsKept, blank, owner_of, before_of, after_of, owners, befores, afters, uid_of, has_uid, new_head, list_of}
use Rattle.slot_chain.specs.Table.{ChainTable, seen, list_in, places_count, Pushes, Unlinks, owners_of, IsSound, IsInNone, IsInOne}
use Rattle.slot_chain.proofs.Ordering.{rising_differ, found_at, found_in_gap}
use Rattle.slot_chain.proofs.Writes.{owner_read, before_read, after_read}
use Rattle.slot_chain.proofs.HeadLists.{IsFound, found_is, list_seen}
use Rattle.slot_chain.proofs.Keeping.{IsPushed, heads_few, frees, pushed_new, pushed_old}
use Rattle.slot_chain.proofs.Dropping.{IsDropped, dropped_only, dropped_first, dropped_last, dropped_inner, ahead_is, behind_is}
use Rattle.std.specs.Option.{option_map}
use Rattle.std.proofs.lemmas.Option.{slice_get-get_or, slice_get_past}
use Rattle.slot_chain.proofs.Seen.{uids_seen, pushes_seen, drops_seen, free_seen, newest_within, count_few, IsListed, listed, never_absent, IsLocated, located, sound}

-- ---- a place comes in

pub record IsMore (old : ChainTable) (after before owner : List ℕ) (heads : List Head) (room uid place : ℕ) : Type 0 where
  pub kept : IsKept after before owner heads room
  pub pushes : Pushes old (seen after heads) uid place
  pub sound : IsSound (seen after heads)

more_of : (old : ChainTable) (after links before owner : List ℕ) (heads more : List Head) (room uid place : ℕ) → seen after heads ≡ old → IsPushed links before owner more room uid place (list_of after heads) → length links ≡ length after
    → IsMore old links before owner more room uid place
more_of old after links before owner heads more room uid place e is long = record {
  kept = is.kept;
  pushes = pushes_seen old after links before owner heads more room uid place e is long;
  sound = sound links before owner more room is.kept;
}

module _ (old : ChainTable) (links : List ChainLink) (heads : List Head) (room uid place : ℕ) (view : seen (afters links) heads ≡ old) (kept : IsKept (afters links) (befores links) (owners links) heads room)
    (below : place < places_count old) (out : IsInNone old place) where
  within : place < length (afters links)
  within = subst (λ (o : ChainTable). place < places_count o) (sym view) below

  free : (other : ℕ) → NoneIs place (list_of (afters links) heads other)
  free = free_seen old (afters links) heads place view out

  pub is_place : place < length links
  is_place = omega (arith, within, length-map links after_of)

  pub has_room : length heads < room
  has_room = omega (arith, kept.memory, kept.owned, heads_few (afters links) (befores links) (owners links) place heads kept.heads_are (frees (afters links) (befores links) (owners links) heads room uid place kept within free) (rising_differ (map uid_of heads) kept.uids) (omega (arith, within, kept.owned)))

  -- of a uid that has no list
  pub begun : (owned : List ChainLink) (later at : ℕ) → Puts (owners links) (owners owned) place uid → length (owners owned) ≡ length (owners links) → befores owned ≡ befores links → afters owned ≡ afters links → room ≤ later → IsGap uid_of heads uid at
      → IsMore old (afters owned) (befores owned) (owners owned) (insert heads at (new_head uid place)) later uid place
  begun owned later at puts long befores_are afters_are more gap = rw (befores_are, afters_are)
      (more_of old (afters links) (afters links) (befores links) (owners owned) heads (insert heads at (new_head uid place)) later uid place view
      (pushed_new (afters links) (befores links) (owners links) heads room uid place kept within free (owners owned) puts long later more at gap) refl)

  -- of a uid that has one
  module _ (at : ℕ) (head : Head) (here : IsAt uid_of heads uid at) (head_is : head ≡ get_or heads at head) where
    found : find (has_uid uid) heads ≡ Some head
    found = found_at uid_of heads uid at head (rising_differ (map uid_of heads) kept.uids) here ∙ ap (λ (h : Head). Some h) (sym head_is)

    head_found : IsFound (afters links) (befores links) (owners links) uid head
    head_found = found_is (afters links) (befores links) (owners links) uid heads head kept.heads_are found

    pub newest_is : head.newest < length links
    newest_is = omega (arith, newest_within (afters links) (befores links) (owners links) head head_found.head_is, length-map links owner_of)

    pub count_fits : head.count + 1 < 2 ^ 32
    count_fits = omega (arith, count_few (afters links) (befores links) (owners links) head head_found.head_is, kept.owned, kept.few)

    pub pushed : (owned linked earlier : List ChainLink) → Puts (owners links) (owners owned) place uid → length (owners owned) ≡ length (owners links) → befores owned ≡ befores links → afters owned ≡ afters links
        → Puts (afters owned) (afters linked) head.newest place → length (afters linked) ≡ length (afters owned) → owners linked ≡ owners owned → befores linked ≡ befores owned
        → Puts (befores linked) (befores earlier) place head.newest → length (befores earlier) ≡ length (befores linked) → owners earlier ≡ owners linked → afters earlier ≡ afters linked
        → IsMore old (afters earlier) (befores earlier) (owners earlier) (set heads at (record head { newest = place; count = head.count + 1 })) room uid place
    pushed owned linked earlier puts long b1 a1 behind links_long o2 b2 ahead earlier_long o3 a3 = rw (o3, o2, a3)
        (more_of old (afters links) (afters linked) (befores earlier) (owners owned) heads _ room uid place view
        (pushed_old (afters links) (befores links) (owners links) heads room uid place kept within free (owners owned) (afters linked) (befores earlier) at head head here.within (sym head_is) found puts long
        (subst (λ (l : List ℕ). Puts l (afters linked) head.newest place) a1 behind) (links_long ∙ ap length a1)
        (subst (λ (l : List ℕ). Puts l (befores earlier) place head.newest) (b2 ∙ b1) ahead) (earlier_long ∙ ap length (b2 ∙ b1)))
        (links_long ∙ ap length a1))

-- ---- a place goes out

pub record IsLess (old : ChainTable) (after before owner : List ℕ) (heads : List Head) (room place : ℕ) : Type 0 where
  pub kept : IsKept after before owner heads room
  pub unlinks : Unlinks old (seen after heads) place
  pub sound : IsSound (seen after heads)

less_of : (old : ChainTable) (after links before owner : List ℕ) (heads fewer : List Head) (room place : ℕ) → seen after heads ≡ old → IsDropped links before owner fewer room place (list_of after heads) → length links ≡ length after
    → IsLess old links before owner fewer room place
less_of old after links before owner heads fewer room place e is long = record {
  kept = is.kept;
  unlinks = drops_seen old after links before owner heads fewer room place e is long;
  sound = sound links before owner fewer room is.kept;
}

module _ (old : ChainTable) (links : List ChainLink) (heads : List Head) (room place : ℕ) (view : seen (afters links) heads ≡ old) (kept : IsKept (afters links) (befores links) (owners links) heads room) (there : IsInOne old place) where
  is_listed : IsListed (afters links) (befores links) (owners links) heads place
  is_listed = listed old (afters links) (befores links) (owners links) heads room place kept view there

  pub is_linked : place < length links
  is_linked = omega (arith, is_listed.owns.0, length-map links owner_of)

  module _ (link : ChainLink) (link_is : link ≡ get_or links place blank) where
    owner_is : link.owner ≡ get_or (owners links) place 0
    owner_is = ap owner_of link_is ∙ sym (owner_read links place)

    before_is : get_or (befores links) place 0 ≡ link.before
    before_is = before_read links place ∙ ap before_of (sym link_is)

    after_is : get_or (afters links) place 0 ≡ link.after
    after_is = after_read links place ∙ ap after_of (sym link_is)

    pub has_head : (at : ℕ) → IsGap uid_of heads link.owner at → ⊥
    has_head at gap = never_absent (afters links) (befores links) (owners links) heads place link.owner at is_listed owner_is gap

    module _ (at : ℕ) (head : Head) (here : IsAt uid_of heads link.owner at) (head_is : head ≡ get_or heads at head) where
      is : IsLocated (afters links) heads place at head
      is = located (afters links) (befores links) (owners links) heads room place link.owner at head kept is_listed owner_is here head_is

      less : (linked earlier : List ℕ) (fewer : List Head) → IsDropped linked earlier (owners links) fewer room place (list_of (afters links) heads) → length linked ≡ length (afters links) → IsLess old linked earlier (owners links) fewer room place
      less linked earlier fewer dropped long = less_of old (afters links) linked earlier (owners links) heads fewer room place view dropped long

      pub less_only : head.count ≡ 1 → IsLess old (afters links) (befores links) (owners links) (remove heads at) room place
      less_only one = less _ _ _ (dropped_only (afters links) (befores links) (owners links) heads room is.uid place kept at head head is.inside is.at_is is.found is.there one) refl

      pub less_first : head.count ≢ 1 → place ≡ head.oldest → IsLess old (afters links) (befores links) (owners links) (set heads at (record head { oldest = link.after; count = head.count - 1 })) room place
      less_first many same = subst (λ (n : ℕ). IsLess old (afters links) (befores links) (owners links) (set heads at (record head { oldest = n; count = head.count - 1 })) room place) after_is
          (less _ _ _ (dropped_first (afters links) (befores links) (owners links) heads room is.uid place kept at head head is.inside is.at_is is.found is.there many same) refl)

      pub less_last : place ≢ head.oldest → place ≡ head.newest → IsLess old (afters links) (befores links) (owners links) (set heads at (record head { newest = link.before; count = head.count - 1 })) room place
      less_last ne same = subst (λ (n : ℕ). IsLess old (afters links) (befores links) (owners links) (set heads at (record head { newest = n; count = head.count - 1 })) room place) before_is
          (less _ _ _ (dropped_last (afters links) (befores links) (owners links) heads room is.uid place kept at head head is.inside is.at_is is.found is.there (λ e. ne (sym e)) same) refl)

      module _ (ne : place ≢ head.oldest) (apart : place ≢ head.newest) where
        pub before_within : link.before < length links
        before_within = subst (λ (n : ℕ). n < length links) before_is (omega (arith, length-map links owner_of, (ahead_is (afters links) (befores links) (owners links) heads room is.uid place kept at head head is.inside is.at_is is.found is.there (λ e. ne (sym e))).0))

        pub after_within : link.after < length links
        after_within = subst (λ (n : ℕ). n < length links) after_is (omega (arith, length-map links owner_of, (behind_is (afters links) (befores links) (owners links) heads room is.uid place kept at head head is.inside is.at_is is.found is.there (λ e. ne (sym e)) (λ e. apart (sym e))).0))

        pub less_inner : (linked earlier : List ChainLink) → Puts (afters links) (afters linked) link.before link.after → length (afters linked) ≡ length (afters links) → owners linked ≡ owners links → befores linked ≡ befores links
            → Puts (befores linked) (befores earlier) link.after link.before → length (befores earlier) ≡ length (befores linked) → owners earlier ≡ owners linked → afters earlier ≡ afters linked
            → IsLess old (afters earlier) (befores earlier) (owners earlier) (set heads at (record head { count = head.count - 1 })) room place
        less_inner linked earlier behind long o1 b1 ahead earlier_long o2 a2 = rw (o2, o1, a2) (less _ _ _
            (dropped_inner (afters links) (befores links) (owners links) heads room is.uid place kept at head head is.inside is.at_is is.found is.there (afters linked) (befores earlier) (λ e. ne (sym e)) (λ e. apart (sym e))
            (rw (before_is, after_is) behind) long
            (rw (before_is, after_is) (subst (λ (l : List ℕ). Puts l (befores earlier) link.after link.before) b1 ahead)) (earlier_long ∙ ap length b1)) long)

-- ---- what is read

pub first_found : (old : ChainTable) (links : List ChainLink) (heads : List Head) (room uid at : ℕ) (head : Head) → seen (afters links) heads ≡ old → IsKept (afters links) (befores links) (owners links) heads room
    → IsAt uid_of heads uid at → head ≡ get_or heads at head → Some head.oldest ≡ slice_get (list_in old uid) 0
first_found old links heads room uid at head view kept here head_is =
    let found : find (has_uid uid) heads ≡ Some head = found_at uid_of heads uid at head (rising_differ (map uid_of heads) kept.uids) here ∙ ap (λ (h : Head). Some h) (sym head_is) in
    rw (← view, list_seen (afters links) heads uid, found) refl

pub none_found : (old : ChainTable) (links : List ChainLink) (heads : List Head) (uid at : ℕ) → seen (afters links) heads ≡ old → IsGap uid_of heads uid at → None ≡ slice_get (list_in old uid) 0
none_found old links heads uid at view gap = rw (← view, list_seen (afters links) heads uid, found_in_gap uid_of heads uid at gap) refl

pub sound_seen : (old : ChainTable) (links : List ChainLink) (heads : List Head) (room : ℕ) → seen (afters links) heads ≡ old → IsKept (afters links) (befores links) (owners links) heads room → IsSound old
sound_seen old links heads room view kept = subst IsSound view (sound (afters links) (befores links) (owners links) heads room kept)

owner_in : (heads : List Head) (at : ℕ) → slice_get (map uid_of heads) at ≡ option_map uid_of (slice_get heads at)
owner_in [] at = refl
owner_in (k ∷ ks) zero = refl
owner_in (k ∷ ks) (suc at) = owner_in ks at

pub owner_seen : (old : ChainTable) (links : List ChainLink) (heads : List Head) (at : ℕ) (head : Head) → seen (afters links) heads ≡ old → at < length heads → head ≡ get_or heads at head → Some head.uid ≡ slice_get (owners_of old) at
owner_seen old links heads at head view within head_is =
    let there : slice_get heads at ≡ Some head = slice_get-get_or heads at head within ∙ ap (λ (h : Head). Some h) (sym head_is) in
    rw (← view, uids_seen (afters links) heads, owner_in heads at, there) refl

pub owner_past : (old : ChainTable) (links : List ChainLink) (heads : List Head) (at : ℕ) → seen (afters links) heads ≡ old → length heads ≤ at → None ≡ slice_get (owners_of old) at
owner_past old links heads at view past = rw (← view, uids_seen (afters links) heads, owner_in heads at, slice_get_past heads at past) refl
