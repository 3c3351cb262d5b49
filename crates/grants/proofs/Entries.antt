-- The two maps as lists of rows.
use Rattle.std.proofs.Common.{◌≡◌, ℕ, false, ◌&&◌, not, ◌==◌, List, [], ◌∷◌, ◌++◌, Some, refl, sym, ap, ◌∙◌, arith, inl, inr}
use Rattle.std.specs.Prelude.{find, map}
use Rattle.std.specs.Ordering.{nat_cmp, is_eq}
use Rattle.std.specs.Cmp.{nat_cmp_is}
use Rattle.std.specs.declared.cmp.Ordering.TheVariants.{Less, Equal, Greater}
use Rattle.std.specs.List.{AllByRecursion, filter}
use Rattle.std.specs.Map.{lookup, remove_entry, set_value, values_of}
use Rattle.std.specs.BTreeMap.{is_at, insert_entry}
use Rattle.std.proofs.lemmas.Bool.{cases_Bool, cases_order, eq-eqb, ne_eqb}
use Rattle.std.proofs.lemmas.Option.{none-some, same_Some}
use Rattle.grants.specs.declared.row.GrantRow.{GrantRow}
use Rattle.grants.specs.Rows.{IsTable, IsBefore, is_numbered, is_for, with_bits}
use Rattle.grants.specs.Maps.{entries_of, holder_cmp}
use Rattle.grants.proofs.Finding.{all_more, found_has}
use Rattle.grants.proofs.Ordered.{others_stay, same_holder, bits_keep_all}

pub number_test : (n k : ℕ) → is_eq (nat_cmp n k) ≡ (k == n)
number_test n k =
    elim (cases_order n k) [
      | inl same ↦ rw (sym (nat_cmp_is n k Equal same), eq-eqb k n (sym same)) refl
      | inr other ↦ elim other [
        | inl below ↦ rw (sym (nat_cmp_is n k Less below), ne_eqb k n (λ e. omega (arith, e, below))) refl
        | inr above ↦ rw (sym (nat_cmp_is n k Greater above), ne_eqb k n (λ e. omega (arith, e, above))) refl
      ]
    ]

same_test : (n k : ℕ) → is_eq (nat_cmp n k) ≡ (n == k)
same_test n k =
    elim (cases_order n k) [
      | inl same ↦ rw (sym (nat_cmp_is n k Equal same), eq-eqb n k same) refl
      | inr other ↦ elim other [
        | inl below ↦ rw (sym (nat_cmp_is n k Less below), ne_eqb n k (λ e. omega (arith, e, below))) refl
        | inr above ↦ rw (sym (nat_cmp_is n k Greater above), ne_eqb n k (λ e. omega (arith, e, above))) refl
      ]
    ]

pub holder_test : (key uid : ℕ) (k u : ℕ) → is_eq (holder_cmp (key, uid) (k, u)) ≡ ((key == k) && (uid == u))
holder_test key uid k u =
    elim (cases_order key k) [
      | inl same ↦ rw (sym (nat_cmp_is key k Equal same), eq-eqb key k same) (same_test uid u)
      | inr other ↦ elim other [
        | inl below ↦ rw (sym (nat_cmp_is key k Less below), ne_eqb key k (λ e. omega (arith, e, below))) refl
        | inr above ↦ rw (sym (nat_cmp_is key k Greater above), ne_eqb key k (λ e. omega (arith, e, above))) refl
      ]
    ]

pub rows_back : (rows : List GrantRow) → values_of (entries_of rows) ≡ rows
rows_back [] = refl
rows_back (row ∷ rows) = rw (rows_back rows) refl

pub lookup_rows : (n : ℕ) (rows : List GrantRow) → lookup (is_at (nat_cmp n)) (entries_of rows) ≡ find (is_numbered n) rows
lookup_rows n [] = refl
lookup_rows n (row ∷ rows) = rw (number_test n row.grant, lookup_rows n rows) refl

pub insert_rows : (last : GrantRow) (rows : List GrantRow) → AllByRecursion (λ row. IsBefore row last) rows → insert_entry nat_cmp (entries_of rows) last.grant last ≡ entries_of (rows ++ last ∷ [])
insert_rows last [] a = refl
insert_rows last (row ∷ rows) a = rw (sym (nat_cmp_is last.grant row.grant Greater a.0.0), insert_rows last rows a.1) refl

pub remove_rows : (n : ℕ) (rows : List GrantRow) → IsTable rows → remove_entry (is_at (nat_cmp n)) (entries_of rows) ≡ entries_of (filter (λ row. not (is_numbered n row)) rows)
remove_rows n [] t = refl
remove_rows n (row ∷ rows) t =
    rw (number_test n row.grant) (elim (cases_Bool (row.grant == n)) [
      | inl here ↦ rw (here, others_stay n row rows here t.0) refl
      | inr there ↦ rw there (ap (λ es. (row.grant, row) ∷ es) (remove_rows n rows t.1))
    ])

pub set_rows : (key uid bits : ℕ) (rows : List GrantRow) (held : GrantRow) → IsTable rows → find (is_for key uid) rows ≡ Some held → set_value (is_at (nat_cmp held.grant)) (entries_of rows) (record held { bits = bits }) ≡ entries_of (map (with_bits key uid bits) rows)
set_rows key uid bits [] held t e = absurd (none-some held e)
set_rows key uid bits (row ∷ rows) held t e =
    elim (cases_Bool (is_for key uid row)) [
      | inl passes ↦
          let same : row ≡ held = same_Some row held (rw passes at e) in
          rw (← same, number_test row.grant row.grant, eq-eqb row.grant row.grant refl, passes, bits_keep_all key uid bits rows (all_more (IsBefore row) (λ later. is_for key uid later ≡ false) (λ later before. same_holder key uid row later passes before.1) rows t.0)) refl
      | inr fails ↦
          let found : find (is_for key uid) rows ≡ Some held = rw fails at e in
          rw (number_test held.grant row.grant, ne_eqb row.grant held.grant (λ same. omega (arith, same, (found_has (IsBefore row) (is_for key uid) rows held t.0 found).0)), fails) (ap (λ es. (row.grant, row) ∷ es) (set_rows key uid bits rows held t.1 found))
    ]

-- a look-up by number in a map that has each row under its number
pub lookup_is : (n : ℕ) (entries : List (ℕ × GrantRow)) → entries ≡ entries_of (values_of entries) → lookup (is_at (nat_cmp n)) entries ≡ find (is_numbered n) (values_of entries)
lookup_is n entries e = ap (λ es. lookup (is_at (nat_cmp n)) es) e ∙ lookup_rows n (values_of entries)
