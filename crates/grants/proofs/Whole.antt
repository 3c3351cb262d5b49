-- The newest row behind those of the maps, and what each change makes of the look-ups.
use Rattle.std.proofs.Common.{◌≡◌, ℕ, ◌<◌, Bool, true, false, ◌&&◌, not, ◌==◌, if◌then◌else◌, cond, List, [], ◌∷◌, ◌++◌, Option, Some, None, refl, sym, ap, ◌∙◌, subst, inl, inr}
use Rattle.std.specs.Prelude.{find, map, is_some}
use Rattle.std.specs.Option.{option_map, option_or}
use Rattle.std.specs.List.{AllByRecursion, filter}
use Rattle.std.proofs.lemmas.Bool.{both_ways, cases_Bool, and_parts, and_from, eqb-true, eq-eqb}
use Rattle.std.proofs.lemmas.Option.{none-some, same_Some}
use Rattle.grants.specs.declared.row.GrantRow.{GrantRow}
use Rattle.grants.specs.Rows.{IsTable, IsBefore, is_numbered, is_for, with_bits}
use Rattle.grants.specs.Table.{unless}
use Rattle.grants.specs.Newest.{listed}
use Rattle.grants.proofs.Finding.{all_more, all_filter, find_none, found_has, found_passes}
use Rattle.grants.proofs.Ordered.{same_holder, later_number, before_last, absent_before, bits_keep_other, bits_keep_number, find_with_bits, numbered_from_held}
use Rattle.grants.proofs.Indexed.{bits_pass, found_elsewhere}

-- ---- a test that one row at most passes

abbrev pub IsOnce : (GrantRow → Bool) → List GrantRow → Type 0
IsOnce p [] = Unit {0}
IsOnce p (row ∷ rows) = (p row ≡ true → AllByRecursion (λ later. p later ≡ false) rows) × IsOnce p rows

pub once_by_number : (number : ℕ) (rows : List GrantRow) → IsTable rows → IsOnce (is_numbered number) rows
once_by_number number [] t = tt
once_by_number number (row ∷ rows) t = (
  λ here. all_more (IsBefore row) (λ later. is_numbered number later ≡ false) (λ later before. later_number number row later here before) rows t.0,
  once_by_number number rows t.1,
)

pub once_by_key : (key uid : ℕ) (rows : List GrantRow) → IsTable rows → IsOnce (is_for key uid) rows
once_by_key key uid [] t = tt
once_by_key key uid (row ∷ rows) t = (
  λ here. all_more (IsBefore row) (λ later. is_for key uid later ≡ false) (λ later before. same_holder key uid row later here before.1) rows t.0,
  once_by_key key uid rows t.1,
)

-- what is found of the rows that are left
pub find_left : (out p : GrantRow → Bool) (rows : List GrantRow) → IsOnce p rows → find p (filter (λ row. not (out row)) rows) ≡ unless out (find p rows)
find_left out p [] o = refl
find_left out p (row ∷ rows) o =
    elim (cases_Bool (p row)) [
      | inl found ↦ elim (cases_Bool (out row)) [
        | inl gone ↦ rw (found, gone) (find_none p (filter (λ later. not (out later)) rows) (all_filter (λ later. p later ≡ false) (λ later. not (out later)) rows (o.0 found)))
        | inr stays ↦ rw (found, stays) (rw found refl)
      ]
      | inr other ↦ elim (cases_Bool (out row)) [
        | inl gone ↦ rw (other, gone) (find_left out p rows o.1)
        | inr stays ↦ rw (other, stays) (rw other (find_left out p rows o.1))
      ]
    ]

-- ---- a row that is added

pub before_new : (rows : List GrantRow) (row : GrantRow) → AllByRecursion (λ held. held.grant < row.grant) rows → AllByRecursion (λ held. is_for row.key row.uid held ≡ false) rows → AllByRecursion (λ held. IsBefore held row) rows
before_new [] row below apart = tt
before_new (held ∷ rows) row below apart =
    let other : is_for held.key held.uid row ≡ false =
    elim (cases_Bool (is_for held.key held.uid row)) [
      | inl same ↦
          let parts = and_parts (row.key == held.key) (row.uid == held.uid) same in
          absurd (both_ways (is_for row.key row.uid held) apart.0 (and_from (held.key == row.key) (held.uid == row.uid)
          (eq-eqb held.key row.key (sym (eqb-true row.key held.key parts.0))) (eq-eqb held.uid row.uid (sym (eqb-true row.uid held.uid parts.1)))))
      | inr fails ↦ fails
    ] in
    ((below.0, other), before_new rows row below.1 apart.1)

pub number_push : (number : ℕ) (rows : List GrantRow) (last : GrantRow) → AllByRecursion (λ row. IsBefore row last) rows → find (is_numbered number) (rows ++ last ∷ []) ≡ cond (is_numbered number last) (Some last) (find (is_numbered number) rows)
number_push number [] last a = refl
number_push number (row ∷ rows) last a =
    elim (cases_Bool (is_numbered number row)) [
      | inl here ↦ rw (here, later_number number row last here a.0) refl
      | inr fails ↦ rw fails (number_push number rows last a.1)
    ]

-- ---- a row that takes other bits

held_from_numbered : (number : ℕ) (rows : List GrantRow) (row : GrantRow) (key uid : ℕ) → IsTable rows → find (is_numbered number) rows ≡ Some row → is_for key uid row ≡ true → find (is_for key uid) rows ≡ Some row
held_from_numbered number [] row key uid t e same = absurd (none-some row e)
held_from_numbered number (first ∷ rows) row key uid t e same =
    elim (cases_Bool (is_numbered number first)) [
      | inl here ↦ let is : first ≡ row = same_Some first row (rw here at e) in rw is (rw same refl)
      | inr there ↦
          let found : find (is_numbered number) rows ≡ Some row = rw there at e in
          elim (cases_Bool (is_for key uid first)) [
            | inl clash ↦ absurd (both_ways (is_for key uid row) (same_holder key uid first row clash (found_has (IsBefore first) (is_numbered number) rows row t.0 found).1) same)
            | inr apart ↦ rw apart (held_from_numbered number rows row key uid t.1 found same)
          ]
    ]

number_passes : (key uid bits number : ℕ) (row : GrantRow) → is_numbered number (with_bits key uid bits row) ≡ is_numbered number row
number_passes key uid bits number row = rw (bits_keep_number key uid bits row) refl

other_number : (key uid bits number : ℕ) (rows : List GrantRow) (held : GrantRow) (found : Option GrantRow) → IsTable rows → find (is_for key uid) rows ≡ Some held → (held.grant == number) ≡ false → find (is_numbered number) rows ≡ found → option_map (with_bits key uid bits) found ≡ found
other_number key uid bits number rows held None t e apart f = refl
other_number key uid bits number rows held (Some row) t e apart f =
    ap (λ r. Some r) (elim (cases_Bool (is_for key uid row)) [
      | inl same ↦
          let is : held ≡ row = same_Some held row (sym e ∙ held_from_numbered number rows row key uid t f same) in
          absurd (both_ways (held.grant == number) apart (rw is (found_passes (is_numbered number) rows row f)))
      | inr other ↦ bits_keep_other key uid bits row other
    ])

pub number_rebit : (key uid bits number : ℕ) (rows : List GrantRow) (held : GrantRow) → IsTable rows → find (is_for key uid) rows ≡ Some held → find (is_numbered number) (map (with_bits key uid bits) rows) ≡ (if held.grant == number then Some (record held { bits = bits }) else find (is_numbered number) rows)
number_rebit key uid bits number rows held t e =
    find_with_bits key uid bits (is_numbered number) (number_passes key uid bits number) rows ∙ elim (cases_Bool (held.grant == number)) [
      | inl same ↦
          let at : find (is_numbered number) rows ≡ Some held = subst (λ n. find (is_numbered n) rows ≡ Some held) (eqb-true held.grant number same) (numbered_from_held key uid rows held t e) in
          rw (same, at, found_passes (is_for key uid) rows held e) refl
      | inr apart ↦ rw apart (other_number key uid bits number rows held (find (is_numbered number) rows) t e apart refl)
    ]

pub key_rebit : (key uid bits k u : ℕ) (rows : List GrantRow) (held : GrantRow) → find (is_for key uid) rows ≡ Some held → find (is_for k u) (map (with_bits key uid bits) rows) ≡ (if (key == k) && (uid == u) then Some (record held { bits = bits }) else find (is_for k u) rows)
key_rebit key uid bits k u rows held e =
    find_with_bits key uid bits (is_for k u) (bits_pass key uid bits k u) rows ∙ elim (cases_Bool ((key == k) && (uid == u))) [
      | inl same ↦
          let parts = and_parts (key == k) (uid == u) same in
          rw (same, ← eqb-true key k parts.0, ← eqb-true uid u parts.1, e, found_passes (is_for key uid) rows held e) refl
      | inr apart ↦ rw apart (sym (found_elsewhere key uid bits k u rows (find (is_for k u) rows) refl apart))
    ]

-- ---- the bits of a row of the maps, and of the newest

map_push : (key uid bits : ℕ) (rows : List GrantRow) (last : GrantRow) → map (with_bits key uid bits) (rows ++ last ∷ []) ≡ map (with_bits key uid bits) rows ++ with_bits key uid bits last ∷ []
map_push key uid bits [] last = refl
map_push key uid bits (row ∷ rows) last = ap (λ rest. with_bits key uid bits row ∷ rest) (map_push key uid bits rows last)

pub append_none : (rows : List GrantRow) → rows ++ [] ≡ rows
append_none [] = refl
append_none (row ∷ rows) = ap (λ rest. row ∷ rest) (append_none rows)

pub bits_in_maps : (key uid bits : ℕ) (rows : List GrantRow) (newest : Option GrantRow) → IsTable (rows ++ listed newest) → is_some (find (is_for key uid) rows) ≡ true → map (with_bits key uid bits) rows ++ listed newest ≡ map (with_bits key uid bits) (rows ++ listed newest)
bits_in_maps key uid bits rows None t found = append_none (map (with_bits key uid bits) rows) ∙ ap (map (with_bits key uid bits)) (sym (append_none rows))
bits_in_maps key uid bits rows (Some last) t found =
    elim (cases_Bool (is_for key uid last)) [
      | inl clash ↦ absurd (both_ways (is_some (find (is_for key uid) rows)) (rw (absent_before key uid rows last (before_last rows last t) clash) refl) found)
      | inr other ↦ ap (λ row. map (with_bits key uid bits) rows ++ row ∷ []) (sym (bits_keep_other key uid bits last other)) ∙ sym (map_push key uid bits rows last)
    ]

pub bits_of_newest : (key uid bits : ℕ) (rows : List GrantRow) (last : GrantRow) → is_for key uid last ≡ true → map (with_bits key uid bits) rows ++ (record last { bits = bits }) ∷ [] ≡ map (with_bits key uid bits) (rows ++ last ∷ [])
bits_of_newest key uid bits rows last same = sym (map_push key uid bits rows last ∙ rw same refl)

-- ---- look-ups in the maps first, and then at the newest

pub find_whole : (p : GrantRow → Bool) (rows : List GrantRow) (newest : Option GrantRow) → find p (rows ++ listed newest) ≡ option_or (find p rows) (find p (listed newest))
find_whole p [] newest = refl
find_whole p (row ∷ rows) newest = elim (cases_Bool (p row)) [ inl found ↦ rw found refl | inr other ↦ rw other (find_whole p rows newest) ]
