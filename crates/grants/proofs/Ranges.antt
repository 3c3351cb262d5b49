-- The rows of a key stand side by side in the map by key and uid.
use Rattle.std.proofs.Common.{◌≡◌, ℕ, ◌<◌, ◌≤◌, true, false, ◌==◌, List, [], ◌∷◌, Option, Some, None, refl, sym, ◌∙◌, arith, inl, inr}
use Rattle.std.specs.Prelude.{find, IsSome, IsSomeAnd}
use Rattle.std.specs.Ordering.{is_gt}
use Rattle.std.specs.Cmp.{nat_cmp_is}
use Rattle.std.specs.declared.cmp.Ordering.TheVariants.{Less, Equal, Greater}
use Rattle.std.specs.declared.ops.Bound.TheVariants.{Included, Unbounded}
use Rattle.std.specs.BTreeMap.{get, values}
use Rattle.std.specs.BTreeMap.Range.{IsRangeOf}
use Rattle.std.proofs.lemmas.Bool.{both_ways, cases_Bool, cases_order, and_parts, eqb-true, eq-eqb}
use Rattle.grants.specs.declared.row.GrantRow.{GrantRow}
use Rattle.grants.specs.declared.maps.GrantMaps.TheInside.{Inside}
use Rattle.grants.specs.Rows.{is_numbered, is_for, is_of, NoneOf}
use Rattle.grants.specs.Maps.{IsIndexed, holder_cmp}
use Rattle.grants.proofs.Finding.{all_from_none, find_none, found_passes}
use Rattle.grants.proofs.Ordered.{numbered_from_held}

-- the pairs of a key stand from the key with uid 0 on
from_start : (key uid : ℕ) → is_gt (holder_cmp (key, 0) (key, uid)) ≡ false
from_start key uid =
    rw (sym (nat_cmp_is key key Equal refl)) (elim (cases_order 0 uid) [
      | inl same ↦ rw (sym (nat_cmp_is 0 uid Equal same)) refl
      | inr other ↦ elim other [
        | inl below ↦ rw (sym (nat_cmp_is 0 uid Less below)) refl
        | inr above ↦ absurd (omega (arith, above))
      ]
    ])

starts : (key k u : ℕ) → is_gt (holder_cmp (key, 0) (k, u)) ≡ false → key ≤ k
starts key k u h =
    elim (cases_order key k) [
      | inl same ↦ omega (arith, same)
      | inr other ↦ elim other [
        | inl below ↦ omega (arith, below)
        | inr above ↦ absurd (both_ways (is_gt (holder_cmp (key, 0) (k, u))) h (rw (sym (nat_cmp_is key k Greater above)) refl))
      ]
    ]

beyond : (key uid k u : ℕ) → key < k → is_gt (holder_cmp (k, u) (key, uid)) ≡ true
beyond key uid k u lt = rw (sym (nat_cmp_is k key Greater lt)) refl

none_of : (key : ℕ) (rows : List GrantRow) → ((uid : ℕ) → find (is_for key uid) rows ≡ None) → NoneOf key rows
none_of key [] h = tt
none_of key (row ∷ rows) h =
    let here : is_of key row ≡ false =
    elim (cases_Bool (is_of key row)) [
      | inl passes ↦ absurd (both_ways (is_for key row.uid row) (all_from_none (is_for key row.uid) (row ∷ rows) (h row.uid)).0 (rw (passes, eq-eqb row.uid row.uid refl) refl))
      | inr fails ↦ fails
    ] in
    (here, none_of key rows (λ uid. find_none (is_for key uid) rows (all_from_none (is_for key uid) (row ∷ rows) (h uid)).1))

none_at : (found : Option GrantRow) → (IsSome found → ⊥) → found ≡ None
none_at None h = refl
none_at (Some row) h = absurd (h refl)

abbrev pub IsFrom : Inside → ℕ → List ((ℕ × ℕ) × GrantRow) → Type 0
IsFrom maps key entries = IsRangeOf holder_cmp (Included (key, 0)) Unbounded maps.by_holder entries

pub first_found : (maps : Inside) (key : ℕ) (holder : ℕ × ℕ) (row : GrantRow) (rest : List ((ℕ × ℕ) × GrantRow)) → IsIndexed maps → IsFrom maps key ((holder, row) ∷ rest) → holder.0 ≡ key → IsSomeAnd (find (is_numbered row.grant) (values maps.by_number)) (λ found. found.key ≡ key)
first_found maps key holder row rest s r same =
    let rows = values maps.by_number in
    let found : find (is_for holder.0 holder.1) rows ≡ Some row = sym (s.held holder.0 holder.1) ∙ r.1.1 in
    rw (numbered_from_held holder.0 holder.1 rows row s.orderly found)
    (eqb-true row.key holder.0 (and_parts (row.key == holder.0) (row.uid == holder.1) (found_passes (is_for holder.0 holder.1) rows row found)).0 ∙ same)

pub first_beyond : (maps : Inside) (key : ℕ) (holder : ℕ × ℕ) (row : GrantRow) (rest : List ((ℕ × ℕ) × GrantRow)) → IsIndexed maps → IsFrom maps key ((holder, row) ∷ rest) → (holder.0 ≡ key → ⊥) → NoneOf key (values maps.by_number)
first_beyond maps key holder row rest s r apart =
    none_of key (values maps.by_number) (λ uid. sym (s.held key uid) ∙ none_at (get holder_cmp maps.by_holder (key, uid)) (λ some.
    let least : is_gt (holder_cmp holder (key, uid)) ≡ false = r.2 (key, uid) (from_start key uid, tt) some in
    let from : key ≤ holder.0 = starts key holder.0 holder.1 r.1.0.0 in
    both_ways (is_gt (holder_cmp holder (key, uid))) least (beyond key uid holder.0 holder.1 (omega (arith, from, apart)))))

pub none_from : (maps : Inside) (key : ℕ) → IsIndexed maps → IsFrom maps key [] → NoneOf key (values maps.by_number)
none_from maps key s r = none_of key (values maps.by_number) (λ uid. sym (s.held key uid) ∙ r.5 refl (key, uid) (from_start key uid, tt))
