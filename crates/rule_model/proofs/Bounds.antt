-- A key's uses that are left, over the changes of a lasting part.
use Rattle.std.proofs.Common.{◌≡◌, ℕ, zero, suc, ◌+◌, ◌-◌, ◌<◌, ◌≤◌, Bool, true, false, ◌==◌, ◌&&◌, ◌||◌, not, if◌then◌else◌, List, [], ◌∷◌, ◌++◌, map, filter, find, Option, Some, None, refl, sym, ap, ◌∙◌, subst, arith}
use Rattle.std.proofs.lemmas.Bool.{eqb-true, eqb-false}
use Rattle.std.specs.List.{AllByRecursion, list_any}
use Rattle.grants.specs.declared.row.GrantRow.{GrantRow}
use Rattle.grants.specs.Rows.{is_for}
use Rattle.journal_records.specs.declared.change.Change.{Change}
use Rattle.journal_records.specs.declared.change.Change.TheVariants.{Create, Delete, Use, Grant, Ungrant, Clear, Removed, Upgrade}
use Rattle.journal_records.specs.declared.record.KeyRecord.{KeyRecord}
use Rattle.journal_records.specs.Effects.{after, granted, is_last_use, upgraded, used, with_blob, with_key, with_use}
use Rattle.journal_records.specs.LastingPart.{Lasting, has_id, is_named, is_of_user, is_owned, some_has_id, without_keys}
use Rattle.journal_records.specs.Storable.{AreKeys, IsKeyBefore, IsStorable, IsStorableKey}
use Rattle.rule_model.specs.Uses.{HasLimit}

-- ---- each item of a list

abbrev pub Each : {X : Type 0} → (X → Type 0) → List X → Type 0
Each P [] = Unit {0}
Each P (x ∷ xs) = P x × Each P xs

pub each_in : {X : Type 0} (P Q : X → Type 0) → ((x : X) → P x → Q x) → (xs : List X) → Each P xs → Each Q xs
each_in P Q f [] each = tt
each_in P Q f (x ∷ xs) each = (f x each.0, each_in P Q f xs each.1)

pub each_as : {X : Type 0} (P Q : X → Type 0) → ((x : X) → P x → Q x) → (xs : List X) → AllByRecursion P xs → Each Q xs
each_as P Q f [] each = tt
each_as P Q f (x ∷ xs) each = (f x each.0, each_as P Q f xs each.1)

-- those that pass a test, which they then do
pub each_filtered : {X : Type 0} (P : X → Type 0) (test : X → Bool) (xs : List X) → Each P xs → Each (λ x. P x × (test x ≡ true)) (filter test xs)
each_filtered P test [] each = tt
each_filtered P test (x ∷ xs) each = by_test (test x) refl (each_filtered P test xs each.1) where
  by_test : (b : Bool) → test x ≡ b → Each (λ x. P x × (test x ≡ true)) (filter test xs) → Each (λ x. P x × (test x ≡ true)) (if b then x ∷ filter test xs else filter test xs)
  by_test true e rest = ((each.0, e), rest)
  by_test false e rest = rest

pub each_left : {X : Type 0} (P : X → Type 0) (test : X → Bool) (xs : List X) → Each P xs → Each P (filter test xs)
each_left P test xs each = each_in (λ x. P x × (test x ≡ true)) P (λ x both. both.0) (filter test xs) (each_filtered P test xs each)

pub each_changed : {X : Type 0} (P Q : X → Type 0) (change : X → X) → ((x : X) → P x → Q (change x)) → (xs : List X) → Each P xs → Each Q (map change xs)
each_changed P Q change f [] each = tt
each_changed P Q change f (x ∷ xs) each = (f x each.0, each_changed P Q change f xs each.1)

pub each_more : {X : Type 0} (P : X → Type 0) (xs : List X) (y : X) → Each P xs → P y → Each P (xs ++ y ∷ [])
each_more P [] y each last = (last, tt)
each_more P (x ∷ xs) y each last = (each.0, each_more P xs y each.1 last)

pub each_found : {X : Type 0} (P : X → Type 0) (test : X → Bool) (xs : List X) (x : X) → Each P xs → find test xs ≡ Some x → P x
each_found P test [] x each is = cc
each_found P test (first ∷ xs) x each is = by_test (test first) is (each_found P test xs x each.1) where
  by_test : (b : Bool) → (if b then Some first else find test xs) ≡ Some x → (find test xs ≡ Some x → P x) → P x
  by_test true found rest = let this : first ≡ x = cc in subst P this each.0
  by_test false found rest = rest found

-- ---- the keys of one number

-- a key of this number has this limit, and its uses that are left are within it beside those that were made
abbrev pub IsWithin : ℕ → ℕ → ℕ → KeyRecord → Type 0
IsWithin id made limit key = key.id ≡ id → (key.limit ≡ limit) × (1 ≤ limit → (made + key.left ≤ limit) × (1 ≤ key.left))

pub record Bounded (id made limit : ℕ) (part : Lasting) : Type 0 where
  pub numbered : Each (λ (key : KeyRecord). key.id < part.next_key) part.keys
  pub owned : Each (IsWithin id made limit) part.keys
  pub fresh : part.next_key ≤ id → made ≡ 0
  pub within : 1 ≤ limit → made ≤ limit

-- the key that is found has the limit
stands_from : (id made limit : ℕ) (next : ℕ) (keys : List KeyRecord) (key : KeyRecord) → Each (λ (key : KeyRecord). key.id < next) keys → Each (IsWithin id made limit) keys → find (has_id id) keys ≡ Some key → (key.limit ≡ limit) × (id < next)
stands_from id made limit next [] key numbered owned e = cc
stands_from id made limit next (first ∷ keys) key numbered owned e = by_first (first.id == id) refl e (λ found. stands_from id made limit next keys key numbered.1 owned.1 found) where
  by_first : (b : Bool) → (first.id == id) ≡ b → (if b then Some first else find (has_id id) keys) ≡ Some key → (find (has_id id) keys ≡ Some key → (key.limit ≡ limit) × (id < next)) → (key.limit ≡ limit) × (id < next)
  by_first true is found rest =
      let same : first.id ≡ id = eqb-true first.id id is in
      let this : first ≡ key = cc in
      (ap (λ (k : KeyRecord). k.limit) (sym this) ∙ (owned.0 same).0, subst (λ n. n < next) same numbered.0)
  by_first false is found rest = rest found

pub has_limit_within : (id made limit l : ℕ) (part : Lasting) → Bounded id made limit part → HasLimit part id l → (l ≡ limit) × (id < part.next_key)
has_limit_within id made limit l part bounded (key, found, is) =
    let both : (key.limit ≡ limit) × (id < part.next_key) = stands_from id made limit part.next_key part.keys key bounded.numbered bounded.owned found in
    (sym is ∙ both.0, both.1)

-- a key of this number among the keys has a use left, and its number was given
some_from : (id made limit next : ℕ) (keys : List KeyRecord) → Each (λ (key : KeyRecord). key.id < next) keys → Each (IsWithin id made limit) keys → list_any (has_id id) keys ≡ true → (id < next) × (1 ≤ limit → made + 1 ≤ limit)
some_from id made limit next [] numbered owned e = cc
some_from id made limit next (first ∷ keys) numbered owned e = by_first (first.id == id) refl e (λ found. some_from id made limit next keys numbered.1 owned.1 found) where
  by_first : (b : Bool) → (first.id == id) ≡ b → (b || list_any (has_id id) keys) ≡ true → (list_any (has_id id) keys ≡ true → (id < next) × (1 ≤ limit → made + 1 ≤ limit)) → (id < next) × (1 ≤ limit → made + 1 ≤ limit)
  by_first true is found rest =
      let same : first.id ≡ id = eqb-true first.id id is in
      (subst (λ n. n < next) same numbered.0, λ limited. omega (arith, ((owned.0 same).1 limited).0, ((owned.0 same).1 limited).1))
  by_first false is found rest = rest found

pub live_within : (id made limit : ℕ) (part : Lasting) → Bounded id made limit part → some_has_id id part.keys ≡ true → (id < part.next_key) × (1 ≤ limit → made + 1 ≤ limit)
live_within id made limit part bounded live = some_from id made limit part.next_key part.keys bounded.numbered bounded.owned live

-- ---- over a change

-- a new key takes the next number
abbrev pub TakesNext : Lasting → Change → Type 0
TakesNext part (Create id domain nspace alias blob list limit) = id ≡ part.next_key
TakesNext part _ = Unit {0}

-- What is known of the keys of one number goes on: where the number was given before, with the same limit.
pub record Goes (id limit made : ℕ) (part later : Lasting) : Type 0 where
  pub limit_now : ℕ
  pub bounded : Bounded id made limit_now later
  pub same : id < part.next_key → limit_now ≡ limit
  pub grows : part.next_key ≤ later.next_key

goes_ended : (id made limit : ℕ) (ends : KeyRecord → Bool) (part : Lasting) → Bounded id made limit part → Goes id limit made part (without_keys ends part)
goes_ended id made limit ends part bounded = record {
  limit_now = limit;
  bounded = record {
    numbered = each_left (λ (key : KeyRecord). key.id < part.next_key) (λ key. not (ends key)) part.keys bounded.numbered;
    owned = each_left (IsWithin id made limit) (λ key. not (ends key)) part.keys bounded.owned;
    fresh = bounded.fresh;
    within = bounded.within;
  };
  same = λ given. refl;
  grows = omega arith;
}

goes_made : (id made limit : ℕ) (key : KeyRecord) (part : Lasting) → key.id ≡ part.next_key → key.left ≡ key.limit → Bounded id made limit part → Goes id limit made part (with_key key part)
goes_made id made limit key part next full bounded = by_number (id == part.next_key) refl where
  Old : List KeyRecord
  Old = filter (λ old. not (is_named key.domain key.nspace key.alias old)) part.keys

  old_numbered : Each (λ (old : KeyRecord). old.id < part.next_key) Old
  old_numbered = each_left (λ (old : KeyRecord). old.id < part.next_key) (λ old. not (is_named key.domain key.nspace key.alias old)) part.keys bounded.numbered

  all_numbered : Each (λ (old : KeyRecord). old.id < key.id + 1) (Old ++ key ∷ [])
  all_numbered = each_more (λ (old : KeyRecord). old.id < key.id + 1) Old key
      (each_in (λ (old : KeyRecord). old.id < part.next_key) (λ (old : KeyRecord). old.id < key.id + 1) (λ old less. omega (arith, less, next)) Old old_numbered) (omega arith)

  by_number : (b : Bool) → (id == part.next_key) ≡ b → Goes id limit made part (with_key key part)
  by_number true is =
      let this : id ≡ part.next_key = eqb-true id part.next_key is in
      let none : made ≡ 0 = bounded.fresh (omega (arith, this)) in
      record {
        limit_now = key.limit;
        bounded = record {
          numbered = all_numbered;
          owned = each_more (IsWithin id made key.limit) Old key
              (each_in (λ (old : KeyRecord). old.id < part.next_key) (IsWithin id made key.limit) (λ old less same. absurd (omega (arith, less, same, this))) Old old_numbered)
              (λ same. (refl, λ limited. (omega (arith, none, full), omega (arith, full, limited))));
          fresh = λ less. none;
          within = λ limited. omega (arith, none);
        };
        same = λ given. absurd (omega (arith, given, this));
        grows = omega (arith, next);
      }
  by_number false is =
      let other : (id ≡ part.next_key) → ⊥ = eqb-false id part.next_key is in
      record {
        limit_now = limit;
        bounded = record {
          numbered = all_numbered;
          owned = each_more (IsWithin id made limit) Old key
              (each_left (IsWithin id made limit) (λ old. not (is_named key.domain key.nspace key.alias old)) part.keys bounded.owned)
              (λ same. absurd (other (sym same ∙ next)));
          fresh = λ less. bounded.fresh (omega (arith, less, next));
          within = bounded.within;
        };
        same = λ given. refl;
        grows = omega (arith, next);
      }

-- ---- over a use

two_left : (left : ℕ) → not (left == 1) ≡ true → 1 ≤ left → 1 ≤ left - 1
two_left zero e some = omega (arith, some)
two_left (suc zero) e some = cc
two_left (suc (suc left)) e some = omega arith

-- a key that was used, but not for the last time, has one use less
less_left : (id n made limit : ℕ) (key : KeyRecord) → IsWithin id made limit key → not (is_last_use n key) ≡ true → IsWithin id made limit (with_use n key)
less_left id n made limit key within stays = by_number (key.id == n) stays where
  by_number : (b : Bool) → not (b && (key.left == 1)) ≡ true → IsWithin id made limit (if b then record key { left = key.left - 1 } else key)
  by_number true more = λ same. ((within same).0, λ limited. (omega (arith, ((within same).1 limited).0), two_left key.left more ((within same).1 limited).1))
  by_number false more = within

-- and the one that is counted
less_counted : (id made limit : ℕ) (key : KeyRecord) → IsWithin id made limit key → not (is_last_use id key) ≡ true → IsWithin id (made + 1) limit (with_use id key)
less_counted id made limit key within stays = by_number (key.id == id) refl stays where
  by_number : (b : Bool) → (key.id == id) ≡ b → not (b && (key.left == 1)) ≡ true → IsWithin id (made + 1) limit (if b then record key { left = key.left - 1 } else key)
  by_number true is more = λ same. (
    (within same).0,
    λ limited.
        let two : 1 ≤ key.left - 1 = two_left key.left more ((within same).1 limited).1 in
        (omega (arith, two, ((within same).1 limited).0), two),
  )
  by_number false is more = λ same. absurd (eqb-false key.id id is same)

same_number : (n next : ℕ) (key : KeyRecord) → key.id < next → (with_use n key).id < next
same_number n next key less = by_number (key.id == n) where
  by_number : (b : Bool) → (if b then record key { left = key.left - 1 } else key).id < next
  by_number true = less
  by_number false = less

still_numbered : (n : ℕ) (part : Lasting) → Each (λ (key : KeyRecord). key.id < part.next_key) part.keys → Each (λ (key : KeyRecord). key.id < part.next_key) (used n part).keys
still_numbered n part numbered =
    each_changed (λ (key : KeyRecord). key.id < part.next_key) (λ (key : KeyRecord). key.id < part.next_key) (with_use n) (same_number n part.next_key)
    (filter (λ key. not (is_last_use n key)) part.keys) (each_left (λ (key : KeyRecord). key.id < part.next_key) (λ key. not (is_last_use n key)) part.keys numbered)

goes_used : (id n made limit : ℕ) (part : Lasting) → Bounded id made limit part → Goes id limit made part (used n part)
goes_used id n made limit part bounded = record {
  limit_now = limit;
  bounded = record {
    numbered = still_numbered n part bounded.numbered;
    owned = each_changed (λ (key : KeyRecord). IsWithin id made limit key × (not (is_last_use n key) ≡ true)) (IsWithin id made limit) (with_use n) (λ key both. less_left id n made limit key both.0 both.1)
        (filter (λ key. not (is_last_use n key)) part.keys) (each_filtered (IsWithin id made limit) (λ key. not (is_last_use n key)) part.keys bounded.owned);
    fresh = bounded.fresh;
    within = bounded.within;
  };
  same = λ given. refl;
  grows = omega arith;
}

-- a use that is counted, of a key that is there
pub goes_counted : (id made limit : ℕ) (part : Lasting) → Bounded id made limit part → some_has_id id part.keys ≡ true → Goes id limit (made + 1) part (used id part)
goes_counted id made limit part bounded live =
    let has : (id < part.next_key) × (1 ≤ limit → made + 1 ≤ limit) = live_within id made limit part bounded live in
    record {
      limit_now = limit;
      bounded = record {
        numbered = still_numbered id part bounded.numbered;
        owned = each_changed (λ (key : KeyRecord). IsWithin id made limit key × (not (is_last_use id key) ≡ true)) (IsWithin id (made + 1) limit) (with_use id) (λ key both. less_counted id made limit key both.0 both.1)
            (filter (λ key. not (is_last_use id key)) part.keys) (each_filtered (IsWithin id made limit) (λ key. not (is_last_use id key)) part.keys bounded.owned);
        fresh = λ less. absurd (omega (arith, less, has.0));
        within = has.1;
      };
      same = λ given. refl;
      grows = omega arith;
    }

-- ---- over another blob and another list

-- a key keeps its number, its limit and its uses
same_uses : (id made limit n : ℕ) (blob list : List ℕ) (key : KeyRecord) → IsWithin id made limit key → IsWithin id made limit (with_blob n blob list key)
same_uses id made limit n blob list key within = by_number (key.id == n) where
  by_number : (b : Bool) → IsWithin id made limit (if b then record key { blob = blob; list = list } else key)
  by_number true = within
  by_number false = within

number_stays : (n next : ℕ) (blob list : List ℕ) (key : KeyRecord) → key.id < next → (with_blob n blob list key).id < next
number_stays n next blob list key less = by_number (key.id == n) where
  by_number : (b : Bool) → (if b then record key { blob = blob; list = list } else key).id < next
  by_number true = less
  by_number false = less

goes_upgraded : (id n made limit : ℕ) (blob list : List ℕ) (part : Lasting) → Bounded id made limit part → Goes id limit made part (upgraded n blob list part)
goes_upgraded id n made limit blob list part bounded = record {
  limit_now = limit;
  bounded = record {
    numbered = each_changed (λ (key : KeyRecord). key.id < part.next_key) (λ (key : KeyRecord). key.id < part.next_key) (with_blob n blob list) (number_stays n part.next_key blob list) part.keys bounded.numbered;
    owned = each_changed (IsWithin id made limit) (IsWithin id made limit) (with_blob n blob list) (same_uses id made limit n blob list) part.keys bounded.owned;
    fresh = bounded.fresh;
    within = bounded.within;
  };
  same = λ given. refl;
  grows = omega arith;
}

-- ---- over any change

goes_still : (id made limit : ℕ) (part later : Lasting) → later.keys ≡ part.keys → later.next_key ≡ part.next_key → Bounded id made limit part → Goes id limit made part later
goes_still id made limit part later keys next bounded = record {
  limit_now = limit;
  bounded = record {
    numbered = rw (keys, next) bounded.numbered;
    owned = rw keys bounded.owned;
    fresh = rw next bounded.fresh;
    within = bounded.within;
  };
  same = λ given. refl;
  grows = omega (arith, next);
}

goes_granted : (id made limit : ℕ) (held : Option GrantRow) (row : GrantRow) (part : Lasting) → Bounded id made limit part → Goes id limit made part (granted held row part)
goes_granted id made limit None row part bounded = goes_still id made limit part (granted None row part) refl refl bounded
goes_granted id made limit (Some held) row part bounded = goes_still id made limit part (granted (Some held) row part) refl refl bounded

pub goes_on : (id made limit : ℕ) (part : Lasting) (change : Change) → TakesNext part change → Bounded id made limit part → Goes id limit made part (after part change)
goes_on id made limit part (Create number domain nspace alias blob list limit_of) next bounded =
    goes_made id made limit (record { id = number; domain = domain; nspace = nspace; alias = alias; blob = blob; list = list; limit = limit_of; left = limit_of }) part next refl bounded
goes_on id made limit part (Delete number) next bounded = goes_ended id made limit (has_id number) part bounded
goes_on id made limit part (Use number) next bounded = goes_used id number made limit part bounded
goes_on id made limit part (Grant row) next bounded = goes_granted id made limit (find (is_for row.key row.uid) part.grants) row part bounded
goes_on id made limit part (Ungrant grant) next bounded = goes_still id made limit part (after part (Ungrant grant)) refl refl bounded
goes_on id made limit part (Clear domain nspace) next bounded = goes_ended id made limit (is_owned domain nspace) part bounded
goes_on id made limit part (Removed user) next bounded = goes_ended id made limit (is_of_user user) part bounded
goes_on id made limit part (Upgrade number blob list) next bounded = goes_upgraded id number made limit blob list part bounded

-- ---- what a store can hold

-- the keys of one number, of which there is one at most
owned_from : (id next : ℕ) (keys : List KeyRecord) → AllByRecursion (IsStorableKey next) keys → AreKeys keys → (limit : ℕ) × Each (IsWithin id 0 limit) keys
owned_from id next [] each differ = (0, tt)
owned_from id next (key ∷ keys) each differ = by_number (key.id == id) refl (owned_from id next keys each.1 differ.1) where
  by_number : (b : Bool) → (key.id == id) ≡ b → (limit : ℕ) × Each (IsWithin id 0 limit) keys → (limit : ℕ) × Each (IsWithin id 0 limit) (key ∷ keys)
  by_number true is rest = (
    key.limit,
    (
      λ same. (refl, λ limited. (omega (arith, each.0.uses.0), each.0.uses.1 limited)),
      each_as (IsKeyBefore key) (IsWithin id 0 key.limit) (λ later before same. absurd (omega (arith, before.0, same, eqb-true key.id id is))) keys differ.0,
    ),
  )
  by_number false is (limit, rest) = (limit, (λ same. absurd (eqb-false key.id id is same), rest))

pub bounded_from : (id : ℕ) (part : Lasting) → IsStorable part → (limit : ℕ) × Bounded id 0 limit part
bounded_from id part is = by_owned (owned_from id part.next_key part.keys is.keys is.keys_differ) where
  by_owned : (limit : ℕ) × Each (IsWithin id 0 limit) part.keys → (limit : ℕ) × Bounded id 0 limit part
  by_owned (limit, owned) = (
    limit,
    record {
      numbered = each_as (IsStorableKey part.next_key) (λ (key : KeyRecord). key.id < part.next_key) (λ key one. one.numbered.1) part.keys is.keys;
      owned = owned;
      fresh = λ less. refl;
      within = λ limited. omega arith;
    },
  )
