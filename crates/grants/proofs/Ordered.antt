-- A table stays one where a row is put behind it, where rows are taken out, and where bits change.
use Rattle.std.proofs.Common.{◌≡◌, ℕ, Bool, true, false, not, ◌==◌, cond, List, [], ◌∷◌, ◌++◌, Some, None, refl, ap, subst, arith, inl, inr}
use Rattle.std.specs.Prelude.{find, map}
use Rattle.std.specs.Option.{option_map}
use Rattle.std.specs.List.{AllByRecursion, filter}
use Rattle.std.proofs.lemmas.Bool.{both_ways, cases_Bool, and_parts, eqb-true, eq-eqb, ne_eqb, not_from_false}
use Rattle.std.proofs.lemmas.Option.{none-some, same_Some}
use Rattle.grants.specs.declared.row.GrantRow.{GrantRow}
use Rattle.grants.specs.Rows.{IsTable, IsBefore, is_numbered, is_for, with_bits}
use Rattle.grants.proofs.Finding.{all_more, all_front, all_last, all_push, all_filter, find_none, keeps_all, found_has}

-- a row that is for a key and uid, and one that is not for those of the first
pub same_holder : (key uid : ℕ) (row later : GrantRow) → is_for key uid row ≡ true → is_for row.key row.uid later ≡ false → is_for key uid later ≡ false
same_holder key uid row later one other =
    let parts = and_parts (row.key == key) (row.uid == uid) one in
    subst (λ u. is_for key u later ≡ false) (eqb-true row.uid uid parts.1) (subst (λ k. is_for k row.uid later ≡ false) (eqb-true row.key key parts.0) other)

pub later_number : (number : ℕ) (row later : GrantRow) → is_numbered number row ≡ true → IsBefore row later → is_numbered number later ≡ false
later_number number row later here before = ne_eqb later.grant number (λ e. omega (arith, e, eqb-true row.grant number here, before.0))

pub front_table : (rows more : List GrantRow) → IsTable (rows ++ more) → IsTable rows
front_table [] more t = tt
front_table (row ∷ rows) more t = (all_front (IsBefore row) rows more t.0, front_table rows more t.1)

pub before_last : (rows : List GrantRow) (last : GrantRow) → IsTable (rows ++ last ∷ []) → AllByRecursion (λ row. IsBefore row last) rows
before_last [] last t = tt
before_last (row ∷ rows) last t = (all_last (IsBefore row) rows last t.0, before_last rows last t.1)

pub table_more : (rows : List GrantRow) (last : GrantRow) → IsTable rows → AllByRecursion (λ row. IsBefore row last) rows → IsTable (rows ++ last ∷ [])
table_more [] last t a = (tt, tt)
table_more (row ∷ rows) last t a = (all_push (IsBefore row) rows last t.0 a.0, table_more rows last t.1 a.1)

pub table_filter : (p : GrantRow → Bool) (rows : List GrantRow) → IsTable rows → IsTable (filter p rows)
table_filter p [] t = tt
table_filter p (row ∷ rows) t =
    elim (p row) as (λ b. IsTable (cond b (row ∷ filter p rows) (filter p rows))) [ true ↦ (all_filter (IsBefore row) p rows t.0, table_filter p rows t.1) | false ↦ table_filter p rows t.1 ]

-- bits do not change what a row is for
pub bits_keep_number : (key uid bits : ℕ) (row : GrantRow) → (with_bits key uid bits row).grant ≡ row.grant
bits_keep_number key uid bits row = elim (cases_Bool (is_for key uid row)) [ inl passes ↦ rw passes refl | inr fails ↦ rw fails refl ]

pub bits_keep_key : (key uid bits : ℕ) (row : GrantRow) → (with_bits key uid bits row).key ≡ row.key
bits_keep_key key uid bits row = elim (cases_Bool (is_for key uid row)) [ inl passes ↦ rw passes refl | inr fails ↦ rw fails refl ]

pub bits_keep_uid : (key uid bits : ℕ) (row : GrantRow) → (with_bits key uid bits row).uid ≡ row.uid
bits_keep_uid key uid bits row = elim (cases_Bool (is_for key uid row)) [ inl passes ↦ rw passes refl | inr fails ↦ rw fails refl ]

pub bits_keep_other : (key uid bits : ℕ) (row : GrantRow) → is_for key uid row ≡ false → with_bits key uid bits row ≡ row
bits_keep_other key uid bits row fails = rw fails refl

bits_before : (key uid bits : ℕ) (row later : GrantRow) → IsBefore row later → IsBefore (with_bits key uid bits row) (with_bits key uid bits later)
bits_before key uid bits row later before = (
  omega (arith, bits_keep_number key uid bits row, bits_keep_number key uid bits later, before.0),
  rw (bits_keep_key key uid bits row, bits_keep_uid key uid bits row, bits_keep_key key uid bits later, bits_keep_uid key uid bits later) before.1,
)

all_bits : (key uid bits : ℕ) (row : GrantRow) (rows : List GrantRow) → AllByRecursion (IsBefore row) rows → AllByRecursion (IsBefore (with_bits key uid bits row)) (map (with_bits key uid bits) rows)
all_bits key uid bits row [] a = tt
all_bits key uid bits row (later ∷ rows) a = (bits_before key uid bits row later a.0, all_bits key uid bits row rows a.1)

pub table_bits : (key uid bits : ℕ) (rows : List GrantRow) → IsTable rows → IsTable (map (with_bits key uid bits) rows)
table_bits key uid bits [] t = tt
table_bits key uid bits (row ∷ rows) t = (all_bits key uid bits row rows t.0, table_bits key uid bits rows t.1)

pub bits_keep_all : (key uid bits : ℕ) (rows : List GrantRow) → AllByRecursion (λ row. is_for key uid row ≡ false) rows → map (with_bits key uid bits) rows ≡ rows
bits_keep_all key uid bits [] a = refl
bits_keep_all key uid bits (row ∷ rows) a = rw (bits_keep_other key uid bits row a.0, bits_keep_all key uid bits rows a.1) refl

-- a search that does not look at bits
pub find_with_bits : (key uid bits : ℕ) (p : GrantRow → Bool) → ((row : GrantRow) → p (with_bits key uid bits row) ≡ p row) → (rows : List GrantRow) → find p (map (with_bits key uid bits) rows) ≡ option_map (with_bits key uid bits) (find p rows)
find_with_bits key uid bits p same [] = refl
find_with_bits key uid bits p same (row ∷ rows) =
    rw (same row) (elim (cases_Bool (p row)) [ inl passes ↦ rw passes refl | inr fails ↦ rw fails (find_with_bits key uid bits p same rows) ])

-- a row behind the others is found where they have none
pub find_push : (key uid : ℕ) (rows : List GrantRow) (last : GrantRow) → AllByRecursion (λ row. IsBefore row last) rows → find (is_for key uid) (rows ++ last ∷ []) ≡ cond (is_for key uid last) (Some last) (find (is_for key uid) rows)
find_push key uid [] last a = refl
find_push key uid (row ∷ rows) last a =
    elim (cases_Bool (is_for key uid row)) [
      | inl passes ↦ rw (passes, same_holder key uid row last passes a.0.1) refl
      | inr fails ↦ rw fails (find_push key uid rows last a.1)
    ]

pub absent_before : (key uid : ℕ) (rows : List GrantRow) (last : GrantRow) → AllByRecursion (λ row. IsBefore row last) rows → is_for key uid last ≡ true → find (is_for key uid) rows ≡ None
absent_before key uid [] last a h = refl
absent_before key uid (row ∷ rows) last a h =
    elim (cases_Bool (is_for key uid row)) [
      | inl passes ↦ absurd (both_ways (is_for key uid last) (same_holder key uid row last passes a.0.1) h)
      | inr fails ↦ rw fails (absent_before key uid rows last a.1 h)
    ]

-- the rows behind the first are not for its key and uid
none_behind : (key uid : ℕ) (row : GrantRow) (rows : List GrantRow) → is_for key uid row ≡ true → AllByRecursion (IsBefore row) rows → AllByRecursion (λ later. is_for key uid later ≡ false) rows
none_behind key uid row rows passes a = all_more (IsBefore row) (λ later. is_for key uid later ≡ false) (λ later before. same_holder key uid row later passes before.1) rows a

pub others_stay : (number : ℕ) (row : GrantRow) (rows : List GrantRow) → is_numbered number row ≡ true → AllByRecursion (IsBefore row) rows → filter (λ later. not (is_numbered number later)) rows ≡ rows
others_stay number row rows passes a =
    keeps_all (λ later. not (is_numbered number later)) rows (all_more (IsBefore row) (λ later. not (is_numbered number later) ≡ true) (λ later before. not_from_false (is_numbered number later) (later_number number row later passes before)) rows a)

-- what is found once the row of a number is out
pub find_without : (number key uid : ℕ) (rows : List GrantRow) (out : GrantRow) → IsTable rows → find (is_numbered number) rows ≡ Some out → find (is_for key uid) (filter (λ row. not (is_numbered number row)) rows) ≡ cond (is_for key uid out) None (find (is_for key uid) rows)
find_without number key uid [] out t e = absurd (none-some out e)
find_without number key uid (row ∷ rows) out t e =
    elim (cases_Bool (is_numbered number row)) [
      | inl here ↦
          let same : row ≡ out = same_Some row out (rw here at e) in
          rw (here, ← same, others_stay number row rows here t.0) (elim (cases_Bool (is_for key uid row)) [ inl passes ↦ rw passes (find_none (is_for key uid) rows (none_behind key uid row rows passes t.0)) | inr fails ↦ rw fails refl ])
      | inr there ↦
          let found : find (is_numbered number) rows ≡ Some out = rw there at e in
          rw there (elim (cases_Bool (is_for key uid row)) [
            | inl passes ↦ rw (passes, same_holder key uid row out passes (found_has (IsBefore row) (is_numbered number) rows out t.0 found).1) refl
            | inr fails ↦ rw fails (find_without number key uid rows out t.1 found)
          ])
    ]

-- the row of a key and uid is the row of its number
pub numbered_from_held : (key uid : ℕ) (rows : List GrantRow) (held : GrantRow) → IsTable rows → find (is_for key uid) rows ≡ Some held → find (is_numbered held.grant) rows ≡ Some held
numbered_from_held key uid [] held t e = absurd (none-some held e)
numbered_from_held key uid (row ∷ rows) held t e =
    elim (cases_Bool (is_for key uid row)) [
      | inl passes ↦ let same : row ≡ held = same_Some row held (rw passes at e) in rw (← same) (rw (eq-eqb row.grant row.grant refl) refl)
      | inr fails ↦
          let found : find (is_for key uid) rows ≡ Some held = rw fails at e in
          rw (ne_eqb row.grant held.grant (λ same. omega (arith, same, (found_has (IsBefore row) (is_for key uid) rows held t.0 found).0))) (numbered_from_held key uid rows held t.1 found)
    ]

-- of rows that have one key, each may go before the others of the key do
pub ends_after : (number key : ℕ) (rows : List GrantRow) (out : GrantRow) → IsTable rows → find (is_numbered number) rows ≡ Some out → out.key ≡ key → filter (λ row. not (row.key == key)) (filter (λ row. not (is_numbered number row)) rows) ≡ filter (λ row. not (row.key == key)) rows
ends_after number key [] out t e of = absurd (none-some out e)
ends_after number key (row ∷ rows) out t e of =
    elim (cases_Bool (is_numbered number row)) [
      | inl here ↦
          let same : row ≡ out = same_Some row out (rw here at e) in
          let first : (row.key == key) ≡ true = eq-eqb row.key key (rw same of) in
          rw (here, others_stay number row rows here t.0, first) refl
      | inr there ↦
          let found : find (is_numbered number) rows ≡ Some out = rw there at e in
          rw there (elim (cases_Bool (row.key == key)) [
            | inl passes ↦ rw passes (ends_after number key rows out t.1 found of)
            | inr fails ↦ rw fails (ap (λ rest. row ∷ rest) (ends_after number key rows out t.1 found of))
          ])
    ]
