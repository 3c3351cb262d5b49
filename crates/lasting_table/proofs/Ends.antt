-- The end of keys in a lasting part, a key at a time.
use Rattle.std.proofs.Common.{◌≡◌, ℕ, ◌+◌, ◌<◌, ◌≤◌, Bool, true, false, not, ◌&&◌, ◌||◌, ◌==◌, if◌then◌else◌, List, [], ◌∷◌, ◌++◌, length, Option, Some, None, refl, sym, ap, ◌∙◌, subst, arith, inl, inr, Bor}
use Rattle.std.specs.Prelude.{find, map, is_some, IsSome, IsSomeAnd, nat_lt, nat_le}
use Rattle.std.specs.Option.{option_map, option_copied}
use Rattle.std.specs.Str.{bytes_eq}
use Rattle.std.specs.List.{AllByRecursion, filter, list_any}
use Rattle.std.proofs.lemmas.Slice.Eq.{bytes_eq-Decides}
use Rattle.std.proofs.lemmas.Bool.{le-leb, lt-ltb, le-ltb, leb-true, both_ways, cases_Bool, cases_lt, and_parts, and_from, eqb-true, eq-eqb, ne_eqb}
use Rattle.std.proofs.lemmas.Option.{none-some, same_Some}
use Rattle.grants.proofs.Finding.{all_more, all_filter, all_push, find_none, all_from_none, found_passes}
use Rattle.grants.specs.declared.row.GrantRow.{GrantRow}
use Rattle.grants.specs.Rows.{is_of}
use Rattle.journal_records.specs.declared.record.KeyRecord.{KeyRecord}
use Rattle.journal_records.specs.LastingPart.{Lasting, has_id, some_has_id, is_owned, is_named, without_keys}
use Rattle.journal_records.specs.Needs.{has_uses, has_place_for}
use Rattle.journal_records.specs.Effects.{with_blob, with_use, with_key, is_last_use, used}
use Rattle.key_maps.specs.Rows.{AreRows, IsBefore, IsFit, NonePass, AreBelow}
use Rattle.key_maps.specs.Names.{name_of, is_at_name}
use Rattle.key_maps.proofs.KeyRows.{later_id, rows_filter, rows_more, name_without, blob_changes, changes_none, use_changes, id_from_found, find_changed}
use Rattle.key_maps.proofs.Tests.{any_is_found}
use Rattle.key_maps.proofs.Whole.{none_out, named_is, owned_parts, found_short}
use Rattle.tags.specs.declared.limits.TheConstants.{ALIAS_BYTES, MOST_KEYS}

-- ---- lists

filter_same : {X : Type 0} (p q : X → Bool) → ((x : X) → p x ≡ q x) → (xs : List X) → filter p xs ≡ filter q xs
filter_same p q h [] = refl
filter_same p q h (x ∷ xs) = rw (h x, filter_same p q h xs) refl

filter_twice : {X : Type 0} (p q r : X → Bool) → ((x : X) → (q x && p x) ≡ r x) → (xs : List X) → filter p (filter q xs) ≡ filter r xs
filter_twice p q r h [] = refl
filter_twice p q r h (x ∷ xs) =
    rw (← h x) (elim (cases_Bool (q x)) [
      | inl kept ↦ rw (kept, filter_twice p q r h xs) refl
      | inr out ↦ rw (out, filter_twice p q r h xs) refl
    ])

-- ---- what holds of the key of a number

pub of_number : (Q : KeyRecord → Type 0) (id : ℕ) (rows : List KeyRecord) (key : KeyRecord) → AreRows rows → find (has_id id) rows ≡ Some key → Q key → AllByRecursion (λ other. has_id id other ≡ true → Q other) rows
of_number Q id [] key t e q = tt
of_number Q id (first ∷ rows) key t e q =
    elim (cases_Bool (has_id id first)) [
      | inl here ↦
          let same : first ≡ key = same_Some first key (rw here at e) in
          (λ h. subst Q (sym same) q, all_more (IsBefore first) (λ other. has_id id other ≡ true → Q other) (λ other before h. absurd (both_ways (has_id id other) (later_id id first other here before) h)) rows t.1)
      | inr there ↦ (λ h. absurd (both_ways (has_id id first) there h), of_number Q id rows key t.2 (rw there at e) q)
    ]

-- ---- one key ends

-- which grants are of a key that ends
one_ends : (id k : ℕ) (rows : List KeyRecord) → is_some (find (has_id id) rows) ≡ true → some_has_id k (filter (has_id id) rows) ≡ (k == id)
one_ends id k rows some =
    elim (cases_Bool (k == id)) [
      | inl same ↦ rw (same, eqb-true k id same) (at_it rows some)
      | inr other ↦ rw other (elsewhere rows other)
    ]
  where
    at_it : (rows : List KeyRecord) → is_some (find (has_id id) rows) ≡ true → some_has_id id (filter (has_id id) rows) ≡ true
    at_it [] some = absurd cc
    at_it (key ∷ rows) some = elim (cases_Bool (has_id id key)) [ inl here ↦ rw (here, here) refl | inr there ↦ rw there (at_it rows (rw there at some)) ]

    elsewhere : (rows : List KeyRecord) → (k == id) ≡ false → some_has_id k (filter (has_id id) rows) ≡ false
    elsewhere [] other = refl
    elsewhere (key ∷ rows) other =
        elim (cases_Bool (has_id id key)) [
          | inl here ↦ rw (here, ne_eqb key.id k (λ e. both_ways (k == id) other (eq-eqb k id (sym e ∙ eqb-true key.id id here)))) (elsewhere rows other)
          | inr there ↦ rw there (elsewhere rows other)
        ]

pub end_grants : (id : ℕ) (rows : List KeyRecord) (grants : List GrantRow) → is_some (find (has_id id) rows) ≡ true → filter (λ row. not (is_of id row)) grants ≡ filter (λ row. not (some_has_id row.key (filter (has_id id) rows))) grants
end_grants id rows grants some = filter_same _ _ (λ row. ap not (sym (one_ends id row.key rows some))) grants

-- the lasting part once the keys and the grants are these
pub ended : (id : ℕ) (part : Lasting) (keys : List KeyRecord) (grants : List GrantRow) → is_some (find (has_id id) part.keys) ≡ true → keys ≡ filter (λ key. not (has_id id key)) part.keys → grants ≡ filter (λ row. not (is_of id row)) part.grants → record part { keys = keys; grants = grants } ≡ without_keys (has_id id) part
ended id part keys grants some k g = rw (k, g, end_grants id part.keys part.grants some) refl

-- ---- several keys end

-- where no key passes nothing ends
pub none_end : (p : KeyRecord → Bool) (part : Lasting) → NonePass p part.keys → without_keys p part ≡ part
none_end p part none =
    rw (none_out p part.keys none, none_pass p part.keys none) (rw (keep_all part.grants) refl)
  where
    none_pass : (p : KeyRecord → Bool) (rows : List KeyRecord) → NonePass p rows → filter p rows ≡ []
    none_pass p [] a = refl
    none_pass p (key ∷ rows) a = rw a.0 (none_pass p rows a.1)

    keep_all : (rows : List GrantRow) → filter (λ (row : GrantRow). true) rows ≡ rows
    keep_all [] = refl
    keep_all (row ∷ rows) = ap (λ rest. row ∷ rest) (keep_all rows)

-- of keys that pass, one ends before the others
any_split : (p : KeyRecord → Bool) (id k : ℕ) (rows : List KeyRecord) → AllByRecursion (λ key. has_id id key ≡ true → p key ≡ true) rows → (some_has_id k (filter (has_id id) rows) || some_has_id k (filter p (filter (λ key. not (has_id id key)) rows))) ≡ some_has_id k (filter p rows)
any_split p id k [] a = refl
any_split p id k (key ∷ rows) a =
    elim (cases_Bool (has_id id key)) [
      | inl here ↦ rw (here, a.0 here) (elim (cases_Bool (has_id k key)) [ inl found ↦ rw found refl | inr other ↦ rw other (any_split p id k rows a.1) ])
      | inr there ↦ rw there (elim (cases_Bool (p key)) [
        | inl passes ↦ rw (passes) (elim (cases_Bool (has_id k key)) [
          | inl found ↦ rw found (or_true (some_has_id k (filter (has_id id) rows)))
          | inr other ↦ rw other (any_split p id k rows a.1)
        ])
        | inr fails ↦ rw (fails) (any_split p id k rows a.1)
      ])
    ]
  where
    or_true : (b : Bool) → (b || true) ≡ true
    or_true true = refl
    or_true false = refl

keys_end : (p : KeyRecord → Bool) (id : ℕ) (rows : List KeyRecord) → AllByRecursion (λ key. has_id id key ≡ true → p key ≡ true) rows → filter (λ key. not (p key)) (filter (λ key. not (has_id id key)) rows) ≡ filter (λ key. not (p key)) rows
keys_end p id [] a = refl
keys_end p id (key ∷ rows) a =
    elim (cases_Bool (has_id id key)) [
      | inl here ↦ rw (here, a.0 here) (keys_end p id rows a.1)
      | inr there ↦ rw there (elim (cases_Bool (p key)) [ inl passes ↦ rw passes (keys_end p id rows a.1) | inr fails ↦ rw fails (ap (λ rest. key ∷ rest) (keys_end p id rows a.1)) ])
    ]

not_both : (a b c : Bool) → (a || b) ≡ c → (not a && not b) ≡ not c
not_both true b c e = rw (← e) refl
not_both false b c e = rw (← e) refl

pub one_of_many : (p : KeyRecord → Bool) (id : ℕ) (part : Lasting) → AllByRecursion (λ key. has_id id key ≡ true → p key ≡ true) part.keys → without_keys p (without_keys (has_id id) part) ≡ without_keys p part
one_of_many p id part a =
    rw (
      keys_end p id part.keys a,
      filter_twice (λ row. not (some_has_id row.key (filter p (filter (λ key. not (has_id id key)) part.keys)))) (λ row. not (some_has_id row.key (filter (has_id id) part.keys))) (λ row. not (some_has_id row.key (filter p part.keys)))
          (λ row. not_both _ _ _ (any_split p id row.key part.keys a)) part.grants,
    ) refl

-- where that was the only one
pub one_alone : (p : KeyRecord → Bool) (id : ℕ) (part : Lasting) → AllByRecursion (λ key. has_id id key ≡ true → p key ≡ true) part.keys → NonePass p (filter (λ key. not (has_id id key)) part.keys) → without_keys (has_id id) part ≡ without_keys p part
one_alone p id part a none = sym (none_end p (without_keys (has_id id) part) none) ∙ one_of_many p id part a

-- ---- a key under a name

pub rebound : (domain nspace : ℕ) (alias : List ℕ) (part : Lasting) (held : KeyRecord) → AreRows part.keys → length alias ≤ ALIAS_BYTES → find (is_named domain nspace alias) part.keys ≡ Some held → find (has_id held.id) part.keys ≡ Some held → without_keys (has_id held.id) part ≡ without_keys (is_named domain nspace alias) part
rebound domain nspace alias part held t le named numbered =
    let at : find (is_at_name (name_of domain nspace alias)) part.keys ≡ Some held = named_is domain nspace alias part.keys t le ∙ named in
    let left = filter (λ key. not (has_id held.id key)) part.keys in
    one_alone (is_named domain nspace alias) held.id part
    (of_number (λ key. is_named domain nspace alias key ≡ true) held.id part.keys held t numbered (found_passes (is_named domain nspace alias) part.keys held named))
    (all_from_none (is_named domain nspace alias) left
    (sym (named_is domain nspace alias left (rows_filter (λ key. not (has_id held.id key)) part.keys t) le) ∙ name_without held.id (name_of domain nspace alias) part.keys held t numbered
    ∙ rw (found_passes (is_at_name (name_of domain nspace alias)) part.keys held at) refl))

-- ---- a use

no_id_left : (id : ℕ) (rows : List KeyRecord) → NonePass (has_id id) (filter (λ key. not (has_id id key)) rows)
no_id_left id [] = tt
no_id_left id (key ∷ rows) = elim (cases_Bool (has_id id key)) [ inl here ↦ rw here (no_id_left id rows) | inr there ↦ rw there (there, no_id_left id rows) ]

last_left : (id : ℕ) (rows : List KeyRecord) → NonePass (has_id id) rows → NonePass (is_last_use id) rows
last_left id rows none = all_more (λ key. has_id id key ≡ false) (λ key. is_last_use id key ≡ false) (λ key h. rw h refl) rows none

-- a use taken from the key of a number
abbrev with_uses : ℕ → Lasting → Lasting
with_uses id part = record part { keys = map (with_use id) part.keys }

pub last_use : (id : ℕ) (part : Lasting) (key : KeyRecord) → AreRows part.keys → find (has_id id) part.keys ≡ Some key → key.left ≡ 1 → without_keys (has_id id) part ≡ used id part
last_use id part key t found one =
    let left = filter (λ other. not (has_id id other)) part.keys in
    let ends : without_keys (has_id id) part ≡ without_keys (is_last_use id) part =
    one_alone (is_last_use id) id part (of_number (λ other. is_last_use id other ≡ true) id part.keys key t found (and_from (has_id id key) (key.left == 1) (found_passes (has_id id) part.keys key found) (eq-eqb key.left 1 one)))
    (last_left id left (no_id_left id part.keys)) in
    sym (ap (λ keys. record (without_keys (has_id id) part) { keys = keys }) (changes_none id (with_use id) (use_changes id) left (no_id_left id part.keys))) ∙ ap (with_uses id) ends

pub one_use : (id : ℕ) (part : Lasting) (key : KeyRecord) → AreRows part.keys → find (has_id id) part.keys ≡ Some key → (key.left ≡ 1 → ⊥) → record part { keys = map (with_use id) part.keys } ≡ used id part
one_use id part key t found more =
    ap (with_uses id) (sym (none_end (is_last_use id) part (not_last part.keys (of_number (λ other. (other.left == 1) ≡ false) id part.keys key t found (ne_eqb key.left 1 more)))))
  where
    not_last : (rows : List KeyRecord) → AllByRecursion (λ other. has_id id other ≡ true → (other.left == 1) ≡ false) rows → NonePass (is_last_use id) rows
    not_last [] a = tt
    not_last (other ∷ rows) a = ((elim (cases_Bool (has_id id other)) [ inl here ↦ rw (here, a.0 here) refl | inr there ↦ rw there refl ]), not_last rows a.1)

-- ---- how many keys are left

-- one key at most passes
abbrev pub IsOnce : (KeyRecord → Bool) → List KeyRecord → Type 0
IsOnce p [] = Unit {0}
IsOnce p (key ∷ keys) = (p key ≡ true → NonePass p keys) × IsOnce p keys

pub place_left : (p : KeyRecord → Bool) (rows : List KeyRecord) → IsOnce p rows → length (filter (λ key. not (p key)) rows) + (if is_some (find p rows) then 1 else 0) ≡ length rows
place_left p [] o = refl
place_left p (key ∷ rows) o =
    elim (cases_Bool (p key)) [
      | inl here ↦ rw here (omega (arith, ap length (none_out p rows (o.0 here))))
      | inr there ↦ rw there (omega (arith, place_left p rows o.1))
    ]

same_name : (domain nspace : ℕ) (alias : List ℕ) (key later : KeyRecord) → is_named domain nspace alias key ≡ true → is_named key.domain key.nspace key.alias later ≡ false → is_named domain nspace alias later ≡ false
same_name domain nspace alias key later here other =
    let owner = owned_parts domain nspace key (and_parts (is_owned domain nspace key) (bytes_eq key.alias alias) here).0 in
    let same : key.alias ≡ alias = (bytes_eq-Decides key.alias alias).0 (and_parts (is_owned domain nspace key) (bytes_eq key.alias alias) here).1 in
    subst (λ a. is_named domain nspace a later ≡ false) same (subst (λ n. is_named domain n key.alias later ≡ false) owner.1 (subst (λ d. is_named d key.nspace key.alias later ≡ false) owner.0 other))

pub once_named : (domain nspace : ℕ) (alias : List ℕ) (rows : List KeyRecord) → AreRows rows → IsOnce (is_named domain nspace alias) rows
once_named domain nspace alias [] t = tt
once_named domain nspace alias (key ∷ rows) t = (
  λ here. all_more (IsBefore key) (λ later. is_named domain nspace alias later ≡ false) (λ later before. same_name domain nspace alias key later here before.1) rows t.1,
  once_named domain nspace alias rows t.2,
)

lt_is_le : (n m : ℕ) → n + 1 ≡ m → nat_le m MOST_KEYS ≡ nat_lt n MOST_KEYS
lt_is_le n m e =
    elim (cases_lt n MOST_KEYS) [
      | inl below ↦ le-leb m MOST_KEYS (omega (arith, e, below)) ∙ sym (lt-ltb n MOST_KEYS below)
      | inr above ↦ too_many m (omega (arith, e, above)) ∙ sym (le-ltb n MOST_KEYS above)
    ]
  where
    too_many : (m : ℕ) → MOST_KEYS < m → nat_le m MOST_KEYS ≡ false
    too_many m above = elim (cases_Bool (nat_le m MOST_KEYS)) [ inl few ↦ absurd (omega (arith, leb-true m MOST_KEYS few, above)) | inr many ↦ many ]

pub place_rebound : (domain nspace count : ℕ) (alias : List ℕ) (part : Lasting) → AreRows part.keys → count ≡ length part.keys → is_some (find (is_named domain nspace alias) part.keys) ≡ true → nat_le count MOST_KEYS ≡ has_place_for domain nspace alias part
place_rebound domain nspace count alias part t e held =
    let left = place_left (is_named domain nspace alias) part.keys (once_named domain nspace alias part.keys t) in
    lt_is_le (length (filter (λ key. not (is_named domain nspace alias key)) part.keys)) count ((rw held at left) ∙ sym e)

pub place_new : (domain nspace count : ℕ) (alias : List ℕ) (part : Lasting) → AreRows part.keys → count ≡ length part.keys → is_some (find (is_named domain nspace alias) part.keys) ≡ false → nat_lt count MOST_KEYS ≡ has_place_for domain nspace alias part
place_new domain nspace count alias part t e none =
    let left = place_left (is_named domain nspace alias) part.keys (once_named domain nspace alias part.keys t) in
    let same : count ≡ length (filter (λ key. not (is_named domain nspace alias key)) part.keys) = omega (arith, e, (rw none at left)) in
    ap (λ n. nat_lt n MOST_KEYS) same

-- fewer keys than there may be
pub place_few : (domain nspace count : ℕ) (alias : List ℕ) (part : Lasting) → AreRows part.keys → count ≡ length part.keys → count < MOST_KEYS → true ≡ has_place_for domain nspace alias part
place_few domain nspace count alias part t e few =
    by_held (is_some (find (is_named domain nspace alias) part.keys)) refl where
      by_held : (held : Bool) → is_some (find (is_named domain nspace alias) part.keys) ≡ held → true ≡ has_place_for domain nspace alias part
      by_held true held = sym (le-leb count MOST_KEYS (omega (arith, few))) ∙ place_rebound domain nspace count alias part t e held
      by_held false none = sym (lt-ltb count MOST_KEYS few) ∙ place_new domain nspace count alias part t e none

-- ---- a key that is found, and what is left of the others

pub fewer : (id : ℕ) (rows : List KeyRecord) → is_some (find (has_id id) rows) ≡ true → length (filter (λ key. not (has_id id key)) rows) < length rows
fewer id [] some = absurd cc
fewer id (key ∷ rows) some =
    elim (cases_Bool (has_id id key)) [
      | inl here ↦ rw here (omega (arith, at_most rows))
      | inr other ↦ rw other (omega (arith, fewer id rows (rw other at some)))
    ]
  where
    at_most : (rows : List KeyRecord) → length (filter (λ key. not (has_id id key)) rows) ≤ length rows
    at_most [] = omega arith
    at_most (key ∷ rows) = elim (cases_Bool (has_id id key)) [ inl here ↦ rw here (omega (arith, at_most rows)) | inr other ↦ rw other (omega (arith, at_most rows)) ]

pub split_found : (found : Option KeyRecord) (Q : KeyRecord → Type 0) → IsSomeAnd found Q → (key : KeyRecord) × (found ≡ Some key) × Q key
split_found None Q h = absurd h
split_found (Some key) Q h = (key, refl, h)

-- one step of a loop that ends keys that pass
pub ends_on : (p : KeyRecord → Bool) (id : ℕ) (old new : Lasting) → AreRows old.keys → IsSomeAnd (find (has_id id) old.keys) (λ key. p key ≡ true) → new ≡ without_keys (has_id id) old → without_keys p new ≡ without_keys p old
ends_on p id old new t found e =
    let key = split_found (find (has_id id) old.keys) (λ key. p key ≡ true) found in
    ap (without_keys p) e ∙ one_of_many p id old (of_number (λ other. p other ≡ true) id old.keys key.0 t key.1 key.2)

pub fewer_left : (p : KeyRecord → Bool) (id : ℕ) (old new : Lasting) → IsSomeAnd (find (has_id id) old.keys) (λ key. p key ≡ true) → new ≡ without_keys (has_id id) old → length new.keys < length old.keys
fewer_left p id old new found e =
    let key = split_found (find (has_id id) old.keys) (λ key. p key ≡ true) found in
    rw e (fewer id old.keys (rw key.1 refl))

pub some_found : (p : KeyRecord → Bool) (found : Option KeyRecord) → IsSomeAnd found (λ key. p key ≡ true) → IsSome found
some_found p None h = absurd h
some_found p (Some key) h = refl

-- no key with a great number is left where there was none
pub below_filter : (p : KeyRecord → Bool) (number : ℕ) (rows : List KeyRecord) → AreBelow number rows → AreBelow number (filter p rows)
below_filter p number rows below = λ id le. find_none (has_id id) (filter p rows) (all_filter (λ key. has_id id key ≡ false) p rows (all_from_none (has_id id) rows (below id le)))

pub below_use : (used_id number : ℕ) (rows : List KeyRecord) → AreBelow number rows → AreBelow number (map (with_use used_id) rows)
below_use used_id number rows below = λ id le. find_changed (with_use used_id) (has_id id) (use_changes used_id).names (λ key blob list left. refl) rows ∙ ap (option_map (with_use used_id)) (below id le)

pub below_upgraded : (upgraded_id : ℕ) (blob list : List ℕ) (number : ℕ) (rows : List KeyRecord) → AreBelow number rows → AreBelow number (map (with_blob upgraded_id blob list) rows)
below_upgraded upgraded_id blob list number rows below = λ id le.
    find_changed (with_blob upgraded_id blob list) (has_id id) (blob_changes upgraded_id blob list).names (λ key b l left. refl) rows ∙ ap (option_map (with_blob upgraded_id blob list)) (below id le)

-- ---- a key that is put behind the others

each_below : (number : ℕ) (rows : List KeyRecord) → AreBelow number rows → AllByRecursion (λ key. key.id < number) rows
each_below number [] below = tt
each_below number (key ∷ rows) below = (
  elim (cases_lt key.id number) [
    | inl less ↦ less
    | inr above ↦ absurd (both_ways (has_id key.id key) (all_from_none (has_id key.id) (key ∷ rows) (below key.id above)).0 (eq-eqb key.id key.id refl))
  ],
  each_below number rows (λ id le. find_none (has_id id) rows (all_from_none (has_id id) (key ∷ rows) (below id le)).1),
)

named_back : (key other : KeyRecord) → is_named other.domain other.nspace other.alias key ≡ true → is_named key.domain key.nspace key.alias other ≡ true
named_back key other here =
    let parts = and_parts (is_owned other.domain other.nspace key) (bytes_eq key.alias other.alias) here in
    let owner = owned_parts other.domain other.nspace key parts.0 in
    and_from (is_owned key.domain key.nspace other) (bytes_eq other.alias key.alias)
    (and_from (other.domain == key.domain) (other.nspace == key.nspace) (eq-eqb other.domain key.domain (sym owner.0)) (eq-eqb other.nspace key.nspace (sym owner.1)))
    ((bytes_eq-Decides other.alias key.alias).1 (sym ((bytes_eq-Decides key.alias other.alias).0 parts.1)))

pub before_new : (rows : List KeyRecord) (key : KeyRecord) → AllByRecursion (λ held. held.id < key.id) rows → NonePass (is_named key.domain key.nspace key.alias) rows → AllByRecursion (λ held. IsBefore held key) rows
before_new [] key below apart = tt
before_new (held ∷ rows) key below apart =
    let other : is_named held.domain held.nspace held.alias key ≡ false =
    elim (cases_Bool (is_named held.domain held.nspace held.alias key)) [
      | inl same ↦ absurd (both_ways (is_named key.domain key.nspace key.alias held) apart.0 (named_back key held same))
      | inr fails ↦ fails
    ] in
    ((below.0, other), before_new rows key below.1 apart.1)

none_named : (p : KeyRecord → Bool) (rows : List KeyRecord) → NonePass p (filter (λ key. not (p key)) rows)
none_named p [] = tt
none_named p (key ∷ rows) = elim (cases_Bool (p key)) [ inl here ↦ rw here (none_named p rows) | inr there ↦ rw there (there, none_named p rows) ]

pub new_rows : (old new : Lasting) (key : KeyRecord) → AreRows old.keys → AreBelow key.id old.keys → IsFit key → new ≡ without_keys (is_named key.domain key.nspace key.alias) old → AreRows (new.keys ++ key ∷ [])
new_rows old new key t below fit e =
    let left = filter (λ held. not (is_named key.domain key.nspace key.alias held)) old.keys in
    subst (λ part. AreRows (part.keys ++ key ∷ [])) (sym e) (rows_more left key (rows_filter (λ held. not (is_named key.domain key.nspace key.alias held)) old.keys t) fit
    (before_new left key (each_below key.id left (below_filter (λ held. not (is_named key.domain key.nspace key.alias held)) key.id old.keys below)) (none_named (is_named key.domain key.nspace key.alias) old.keys)))

pub below_push : (number : ℕ) (rows : List KeyRecord) (key : KeyRecord) → AreBelow number rows → key.id < number → AreBelow number (rows ++ key ∷ [])
below_push number rows key below less = λ id le.
    find_none (has_id id) (rows ++ key ∷ []) (all_push (λ held. has_id id held ≡ false) rows key (all_from_none (has_id id) rows (below id le)) (ne_eqb key.id id (λ same. omega (arith, same, le, less))))

pub below_new : (number : ℕ) (rows : List KeyRecord) (key : KeyRecord) → AreBelow number rows → number ≡ key.id → AreBelow (key.id + 1) (rows ++ key ∷ [])
below_new number rows key below e = below_push (key.id + 1) rows key (λ id le. below id (omega (arith, e, le))) (omega arith)

pub with_new : (old new : Lasting) (key : KeyRecord) → new ≡ without_keys (is_named key.domain key.nspace key.alias) old → record new { keys = new.keys ++ key ∷ []; next_key = key.id + 1 } ≡ with_key key old
with_new old new key e = rw e refl

-- the last use of a key, where one is found
pub last_use_at : (id : ℕ) (part : Lasting) → AreRows part.keys → list_any (is_last_use id) part.keys ≡ true → without_keys (has_id id) part ≡ used id part
last_use_at id part t last = at (find (is_last_use id) part.keys) refl (sym (any_is_found (is_last_use id) part.keys) ∙ last)
  where
    at : (found : Option KeyRecord) → find (is_last_use id) part.keys ≡ found → is_some found ≡ true → without_keys (has_id id) part ≡ used id part
    at None e some = absurd cc
    at (Some key) e some =
        let parts = and_parts (has_id id key) (key.left == 1) (found_passes (is_last_use id) part.keys key e) in
        let numbered : find (has_id id) part.keys ≡ Some key = subst (λ n. find (has_id n) part.keys ≡ Some key) (eqb-true key.id id parts.0) (id_from_found (is_last_use id) part.keys key t e) in
        last_use id part key t numbered (eqb-true key.left 1 parts.1)

pub no_last_use : (id : ℕ) (part : Lasting) → list_any (is_last_use id) part.keys ≡ false → record part { keys = map (with_use id) part.keys } ≡ used id part
no_last_use id part none = ap (with_uses id) (sym (none_end (is_last_use id) part (all_from_none (is_last_use id) part.keys (none_is (find (is_last_use id) part.keys) (sym (any_is_found (is_last_use id) part.keys) ∙ none)))))
  where
    none_is : (found : Option KeyRecord) → is_some found ≡ false → found ≡ None
    none_is None e = refl
    none_is (Some key) e = absurd cc

pub used_is_live : (id : ℕ) (rows : List KeyRecord) → list_any (has_uses id) rows ≡ true → IsSome (find (has_id id) rows)
used_is_live id [] e = absurd cc
used_is_live id (key ∷ rows) e =
    elim (cases_Bool (has_id id key)) [ inl here ↦ rw here refl | inr there ↦ rw there (used_is_live id rows (rw there at e)) ]

-- what a look-up by number tells of a test beside it
abbrev pub test_of : (KeyRecord → Bool) → Option KeyRecord → Bool
test_of q None = false
test_of q (Some key) = q key

pub any_of_number : (q : KeyRecord → Bool) (id : ℕ) (rows : List KeyRecord) → AreRows rows → (found : Option KeyRecord) → find (has_id id) rows ≡ found → list_any (λ key. has_id id key && q key) rows ≡ test_of q found
any_of_number q id [] t None e = refl
any_of_number q id [] t (Some key) e = absurd (none-some key e)
any_of_number q id (key ∷ rows) t found e =
    elim (cases_Bool (has_id id key)) [
      | inl here ↦ rw (here, ← e, here, none_pass rows (all_more (IsBefore key) (λ other. has_id id other ≡ false) (λ other before. later_id id key other here before) rows t.1)) (or_false (q key))
      | inr there ↦ rw there (any_of_number q id rows t.2 found (rw there at e))
    ]
  where
    or_false : (b : Bool) → (b || false) ≡ b
    or_false true = refl
    or_false false = refl

    none_pass : (rows : List KeyRecord) → NonePass (has_id id) rows → list_any (λ key. has_id id key && q key) rows ≡ false
    none_pass [] a = refl
    none_pass (other ∷ rows) a = rw (a.0, none_pass rows a.1) refl

-- the key under a name ends, or there is none
pub end_of_none : (domain nspace : ℕ) (alias : List ℕ) (part : Lasting) → find (is_named domain nspace alias) part.keys ≡ None → part ≡ without_keys (is_named domain nspace alias) part
end_of_none domain nspace alias part none = sym (none_end (is_named domain nspace alias) part (all_from_none (is_named domain nspace alias) part.keys none))

pub end_of_named : (domain nspace : ℕ) (alias : List ℕ) (part new : Lasting) (held : KeyRecord) → AreRows part.keys → find (is_named domain nspace alias) part.keys ≡ Some held → new ≡ without_keys (has_id held.id) part → new ≡ without_keys (is_named domain nspace alias) part
end_of_named domain nspace alias part new held t named e =
    e ∙ rebound domain nspace alias part held t (found_short domain nspace alias part.keys t (rw named refl)) named (id_from_found (is_named domain nspace alias) part.keys held t named)

pub copied_none : {X : Type 0} (o : Option (Bor X)) (none : Bool) → is_some o ≡ not none → none ≡ true → option_copied o ≡ None
copied_none None none e t = refl
copied_none (Some x) none e t = absurd (both_ways (not none) (ap not t) (sym e))
