-- The maps hold the same rows after each change of both.
use Rattle.std.proofs.Common.{◌≡◌, ℕ, true, false, ◌&&◌, not, ◌==◌, List, [], ◌∷◌, ◌++◌, Option, Some, None, refl, sym, ap, ◌∙◌, subst, inl, inr}
use Rattle.std.specs.Prelude.{find, map}
use Rattle.std.specs.Option.{option_map}
use Rattle.std.specs.Ordering.{nat_cmp}
use Rattle.std.specs.List.{filter}
use Rattle.std.specs.Map.{remove_entry, set_value, values_of}
use Rattle.std.specs.BTreeMap.{BTreeMap, get, values, is_at, insert_entry, UpdatesBy}
use Rattle.std.proofs.lemmas.Bool.{both_ways, cases_Bool, and_parts, and_from, eqb-true, eq-eqb}
use Rattle.grants.specs.declared.row.GrantRow.{GrantRow}
use Rattle.grants.specs.declared.maps.GrantMaps.TheInside.{Inside}
use Rattle.grants.specs.Rows.{IsTable, is_numbered, is_for, with_bits}
use Rattle.grants.specs.Maps.{IsIndexed, entries_of, holder_cmp}
use Rattle.grants.proofs.Finding.{found_passes}
use Rattle.grants.proofs.Ordered.{before_last, find_push, absent_before, find_without, table_filter, table_bits, find_with_bits, bits_keep_key, bits_keep_uid, bits_keep_other}
use Rattle.grants.proofs.Entries.{rows_back, insert_rows, remove_rows, set_rows, holder_test}

abbrev pub Numbers : Type 0
Numbers = BTreeMap ℕ GrantRow

abbrev pub Holders : Type 0
Holders = BTreeMap (ℕ × ℕ) GrantRow

-- a map whose entries are these rows has these rows
rows_of : (numbers : Numbers) (rows : List GrantRow) → numbers.entries ≡ entries_of rows → values numbers ≡ rows
rows_of numbers rows e = ap values_of e ∙ rows_back rows

indexed : (numbers : Numbers) (holders : Holders) (rows : List GrantRow) → numbers.entries ≡ entries_of rows → ((key uid : ℕ) → get holder_cmp holders (key, uid) ≡ find (is_for key uid) rows) → IsTable rows → IsIndexed (record { by_number = numbers; by_holder = holders })
indexed numbers holders rows e held table =
    let same : values numbers ≡ rows = rows_of numbers rows e in
    record {
      numbered = e ∙ ap entries_of (sym same);
      held = λ key uid. held key uid ∙ ap (find (is_for key uid)) (sym same);
      orderly = subst IsTable (sym same) table;
    }

pub rows_pushed : (maps : Inside) (numbers : Numbers) (row : GrantRow) → IsIndexed maps → IsTable (values maps.by_number ++ row ∷ []) → numbers.entries ≡ insert_entry nat_cmp maps.by_number.entries row.grant row → numbers.entries ≡ entries_of (values maps.by_number ++ row ∷ [])
rows_pushed maps numbers row s table e =
    e ∙ ap (λ es. insert_entry nat_cmp es row.grant row) s.numbered ∙ insert_rows row (values maps.by_number) (before_last (values maps.by_number) row table)

pub pushed_rows : (maps : Inside) (numbers : Numbers) (row : GrantRow) → IsIndexed maps → IsTable (values maps.by_number ++ row ∷ []) → numbers.entries ≡ insert_entry nat_cmp maps.by_number.entries row.grant row → values numbers ≡ values maps.by_number ++ row ∷ []
pushed_rows maps numbers row s table e = rows_of numbers (values maps.by_number ++ row ∷ []) (rows_pushed maps numbers row s table e)

pub pushed : (maps : Inside) (numbers : Numbers) (holders : Holders) (row : GrantRow) → IsIndexed maps → IsTable (values maps.by_number ++ row ∷ []) → numbers.entries ≡ insert_entry nat_cmp maps.by_number.entries row.grant row → UpdatesBy holder_cmp (holder_cmp (row.key, row.uid)) maps.by_holder holders (Some row) → IsIndexed (record { by_number = numbers; by_holder = holders })
pushed maps numbers holders row s table e u =
    let rows = values maps.by_number in
    indexed numbers holders (rows ++ row ∷ []) (rows_pushed maps numbers row s table e)
    (λ key uid. u.0 (key, uid) ∙ rw (holder_test row.key row.uid key uid, s.held key uid) (sym (find_push key uid rows row (before_last rows row table))))
    table

-- what was put in and taken out again was not there
pub undone : (maps : Inside) (numbers : Numbers) (put taken : Holders) (row : GrantRow) → IsIndexed maps → IsTable (values maps.by_number ++ row ∷ []) → numbers.entries ≡ maps.by_number.entries → UpdatesBy holder_cmp (holder_cmp (row.key, row.uid)) maps.by_holder put (Some row) → UpdatesBy holder_cmp (holder_cmp (row.key, row.uid)) put taken None → IsIndexed (record { by_number = numbers; by_holder = taken })
undone maps numbers put taken row s table e in_map out =
    let rows = values maps.by_number in
    indexed numbers taken rows (e ∙ s.numbered)
    (λ key uid. out.0 (key, uid) ∙ rw (in_map.0 (key, uid), holder_test row.key row.uid key uid, s.held key uid) (elim (cases_Bool (is_for key uid row)) [
      | inl passes ↦ rw passes (sym (absent_before key uid rows row (before_last rows row table) passes))
      | inr fails ↦ rw fails refl
    ]))
    s.orderly

pub rows_removed : (maps : Inside) (numbers : Numbers) (number : ℕ) → IsIndexed maps → numbers.entries ≡ remove_entry (is_at (nat_cmp number)) maps.by_number.entries → numbers.entries ≡ entries_of (filter (λ row. not (is_numbered number row)) (values maps.by_number))
rows_removed maps numbers number s e =
    e ∙ ap (remove_entry (is_at (nat_cmp number))) s.numbered ∙ remove_rows number (values maps.by_number) s.orderly

pub removed_rows : (maps : Inside) (numbers : Numbers) (number : ℕ) → IsIndexed maps → numbers.entries ≡ remove_entry (is_at (nat_cmp number)) maps.by_number.entries → values numbers ≡ filter (λ row. not (is_numbered number row)) (values maps.by_number)
removed_rows maps numbers number s e = rows_of numbers (filter (λ row. not (is_numbered number row)) (values maps.by_number)) (rows_removed maps numbers number s e)

pub removed : (maps : Inside) (numbers : Numbers) (holders : Holders) (number : ℕ) (out : GrantRow) → IsIndexed maps → find (is_numbered number) (values maps.by_number) ≡ Some out → numbers.entries ≡ remove_entry (is_at (nat_cmp number)) maps.by_number.entries → UpdatesBy holder_cmp (holder_cmp (out.key, out.uid)) maps.by_holder holders None → IsIndexed (record { by_number = numbers; by_holder = holders })
removed maps numbers holders number out s found e u =
    let rows = values maps.by_number in
    indexed numbers holders (filter (λ row. not (is_numbered number row)) rows) (rows_removed maps numbers number s e)
    (λ key uid. u.0 (key, uid) ∙ rw (holder_test out.key out.uid key uid, s.held key uid) (sym (find_without number key uid rows out s.orderly found)))
    (table_filter (λ row. not (is_numbered number row)) rows s.orderly)

pub bits_pass : (key uid bits k u : ℕ) (row : GrantRow) → is_for k u (with_bits key uid bits row) ≡ is_for k u row
bits_pass key uid bits k u row = rw (bits_keep_key key uid bits row, bits_keep_uid key uid bits row) refl

-- a row of another key or uid has its bits
bits_elsewhere : (key uid bits k u : ℕ) (row : GrantRow) → ((key == k) && (uid == u)) ≡ false → is_for k u row ≡ true → with_bits key uid bits row ≡ row
bits_elsewhere key uid bits k u row apart passes =
    elim (cases_Bool (is_for key uid row)) [
      | inl same ↦
          let here = and_parts (row.key == key) (row.uid == uid) same in
          let there = and_parts (row.key == k) (row.uid == u) passes in
          absurd (both_ways ((key == k) && (uid == u)) apart (and_from (key == k) (uid == u)
          (eq-eqb key k (sym (eqb-true row.key key here.0) ∙ eqb-true row.key k there.0))
          (eq-eqb uid u (sym (eqb-true row.uid uid here.1) ∙ eqb-true row.uid u there.1))))
      | inr other ↦ bits_keep_other key uid bits row other
    ]

pub found_elsewhere : (key uid bits k u : ℕ) (rows : List GrantRow) (found : Option GrantRow) → find (is_for k u) rows ≡ found → ((key == k) && (uid == u)) ≡ false → found ≡ option_map (with_bits key uid bits) found
found_elsewhere key uid bits k u rows None e apart = refl
found_elsewhere key uid bits k u rows (Some row) e apart = ap (λ r. Some r) (sym (bits_elsewhere key uid bits k u row apart (found_passes (is_for k u) rows row e)))

pub rows_rebit : (maps : Inside) (numbers : Numbers) (key uid bits : ℕ) (held : GrantRow) → IsIndexed maps → find (is_for key uid) (values maps.by_number) ≡ Some held → numbers.entries ≡ set_value (is_at (nat_cmp held.grant)) maps.by_number.entries (record held { bits = bits }) → numbers.entries ≡ entries_of (map (with_bits key uid bits) (values maps.by_number))
rows_rebit maps numbers key uid bits held s found e =
    e ∙ ap (λ es. set_value (is_at (nat_cmp held.grant)) es (record held { bits = bits })) s.numbered ∙ set_rows key uid bits (values maps.by_number) held s.orderly found

pub rebit_rows : (maps : Inside) (numbers : Numbers) (key uid bits : ℕ) (held : GrantRow) → IsIndexed maps → find (is_for key uid) (values maps.by_number) ≡ Some held → numbers.entries ≡ set_value (is_at (nat_cmp held.grant)) maps.by_number.entries (record held { bits = bits }) → values numbers ≡ map (with_bits key uid bits) (values maps.by_number)
rebit_rows maps numbers key uid bits held s found e = rows_of numbers (map (with_bits key uid bits) (values maps.by_number)) (rows_rebit maps numbers key uid bits held s found e)

pub rebit : (maps : Inside) (numbers : Numbers) (holders : Holders) (key uid bits : ℕ) (held : GrantRow) → IsIndexed maps → find (is_for key uid) (values maps.by_number) ≡ Some held → numbers.entries ≡ set_value (is_at (nat_cmp held.grant)) maps.by_number.entries (record held { bits = bits }) → UpdatesBy holder_cmp (holder_cmp (key, uid)) maps.by_holder holders (Some (record held { bits = bits })) → IsIndexed (record { by_number = numbers; by_holder = holders })
rebit maps numbers holders key uid bits held s found e update =
    let rows = values maps.by_number in
    indexed numbers holders (map (with_bits key uid bits) rows) (rows_rebit maps numbers key uid bits held s found e)
    (λ k u. update.0 (k, u) ∙ rw (holder_test key uid k u, s.held k u, find_with_bits key uid bits (is_for k u) (bits_pass key uid bits k u) rows) (elim (cases_Bool ((key == k) && (uid == u))) [
      | inl same ↦
          let parts = and_parts (key == k) (uid == u) same in
          rw (same, ← eqb-true key k parts.0, ← eqb-true uid u parts.1, found, found_passes (is_for key uid) rows held found) refl
      | inr apart ↦ rw apart (found_elsewhere key uid bits k u rows (find (is_for k u) rows) refl apart)
    ]))
    (table_bits key uid bits rows s.orderly)
