-- The maps hold the same keys after each change of all.
use Rattle.std.proofs.Common.{◌≡◌, ℕ, ◌+◌, ◌-◌, not, if◌then◌else◌, List, [], ◌∷◌, ◌++◌, length, Option, Some, None, refl, sym, ap, ◌∙◌, subst, arith, inl, inr}
use Rattle.std.specs.Prelude.{find, map}
use Rattle.std.specs.Option.{option_map}
use Rattle.std.specs.Ordering.{nat_cmp}
use Rattle.std.specs.List.{filter}
use Rattle.std.specs.Map.{remove_entry, set_value, values_of}
use Rattle.std.specs.BTreeMap.{BTreeMap, get, values, is_at, insert_entry, UpdatesBy}
use Rattle.std.proofs.lemmas.Bool.{cases_Bool}
use Rattle.journal_records.specs.declared.record.KeyRecord.{KeyRecord}
use Rattle.journal_records.specs.LastingPart.{has_id, is_owned}
use Rattle.journal_records.proofs.KeyLists.{KeepsNames}
use Rattle.key_maps.specs.declared.maps.KeyMaps.TheInside.{Inside}
use Rattle.key_maps.specs.Names.{Name, name_cmp, key_name, is_at_name}
use Rattle.key_maps.specs.Rows.{AreRows}
use Rattle.key_maps.specs.Maps.{IsIndexed, entries_of, id_of, counted}
use Rattle.key_maps.proofs.NameOrder.{name_flips}
use Rattle.key_maps.proofs.KeyRows.{before_last, name_push, absent_before, name_without, count_push, count_without, rows_filter, ChangesKey, rows_changed, find_changed, length_changed}
use Rattle.key_maps.proofs.Entries.{rows_back, insert_rows, remove_rows, set_rows}

abbrev pub Numbers : Type 0
Numbers = BTreeMap ℕ KeyRecord

abbrev pub NameMap : Type 0
NameMap = BTreeMap Name ℕ

abbrev pub Counts : Type 0
Counts = BTreeMap (ℕ × ℕ) ℕ

-- a map whose entries are these keys has these keys
rows_of : (numbers : Numbers) (rows : List KeyRecord) → numbers.entries ≡ entries_of rows → values numbers ≡ rows
rows_of numbers rows e = ap values_of e ∙ rows_back rows

indexed : (numbers : Numbers) (names : NameMap) (counts : Counts) (rows : List KeyRecord) → numbers.entries ≡ entries_of rows
    → ((name : Name) → get name_cmp names name ≡ option_map id_of (find (is_at_name name) rows))
    → ((domain nspace : ℕ) → counted counts domain nspace ≡ length (filter (is_owned domain nspace) rows))
    → AreRows rows → IsIndexed (record { by_id = numbers; by_name = names; counts = counts })
indexed numbers names counts rows e named owned table =
    let same : values numbers ≡ rows = rows_of numbers rows e in
    record {
      numbered = e ∙ ap entries_of (sym same);
      named = λ name. named name ∙ ap (λ keys. option_map id_of (find (is_at_name name) keys)) (sym same);
      owned = λ domain nspace. owned domain nspace ∙ ap (λ keys. length (filter (is_owned domain nspace) keys)) (sym same);
      orderly = subst AreRows (sym same) table;
    }

pub rows_pushed : (maps : Inside) (numbers : Numbers) (key : KeyRecord) → IsIndexed maps → AreRows (values maps.by_id ++ key ∷ []) → numbers.entries ≡ insert_entry nat_cmp maps.by_id.entries key.id key → numbers.entries ≡ entries_of (values maps.by_id ++ key ∷ [])
rows_pushed maps numbers key s table e =
    e ∙ ap (λ es. insert_entry nat_cmp es key.id key) s.numbered ∙ insert_rows key (values maps.by_id) (before_last (values maps.by_id) key table)

pub pushed_rows : (maps : Inside) (numbers : Numbers) (key : KeyRecord) → IsIndexed maps → AreRows (values maps.by_id ++ key ∷ []) → numbers.entries ≡ insert_entry nat_cmp maps.by_id.entries key.id key → values numbers ≡ values maps.by_id ++ key ∷ []
pushed_rows maps numbers key s table e = rows_of numbers (values maps.by_id ++ key ∷ []) (rows_pushed maps numbers key s table e)

-- what a map finds by a name once an entry was put in, or taken out
name_in : (names new : NameMap) (key : KeyRecord) (rows : List KeyRecord) → ((name : Name) → get name_cmp names name ≡ option_map id_of (find (is_at_name name) rows)) → AreRows (rows ++ key ∷ []) → UpdatesBy name_cmp (name_cmp (key_name key)) names new (Some key.id) → (name : Name) → get name_cmp new name ≡ option_map id_of (find (is_at_name name) (rows ++ key ∷ []))
name_in names new key rows named table update name =
    update.0 name ∙ rw (name_flips (key_name key) name, named name, name_push name rows key table)
    (elim (cases_Bool (is_at_name name key)) [ inl here ↦ rw here refl | inr other ↦ rw other refl ])

abbrev pub Raises : Counts → Counts → KeyRecord → Type 0
Raises old new key = (domain nspace : ℕ) → counted new domain nspace ≡ counted old domain nspace + (if is_owned domain nspace key then 1 else 0)

abbrev pub Lowers : Counts → Counts → KeyRecord → Type 0
Lowers old new key = (domain nspace : ℕ) → counted new domain nspace ≡ counted old domain nspace - (if is_owned domain nspace key then 1 else 0)

pub pushed : (maps : Inside) (numbers : Numbers) (names : NameMap) (counts : Counts) (key : KeyRecord) → IsIndexed maps → AreRows (values maps.by_id ++ key ∷ [])
    → numbers.entries ≡ insert_entry nat_cmp maps.by_id.entries key.id key
    → UpdatesBy name_cmp (name_cmp (key_name key)) maps.by_name names (Some key.id)
    → Raises maps.counts counts key
    → IsIndexed (record { by_id = numbers; by_name = names; counts = counts })
pushed maps numbers names counts key s table e update raises =
    let rows = values maps.by_id in
    indexed numbers names counts (rows ++ key ∷ []) (rows_pushed maps numbers key s table e)
    (name_in maps.by_name names key rows s.named table update)
    (λ domain nspace. raises domain nspace ∙ ap (λ n. n + (if is_owned domain nspace key then 1 else 0)) (s.owned domain nspace) ∙ sym (count_push domain nspace rows key))
    table

lowered_back : (n m k : ℕ) → m ≡ n + k → m - k ≡ n
lowered_back n m k e = omega (arith, e)

-- counts that were raised and lowered again, and a name that was put in and taken out again
pub counts_undone : (maps : Inside) (raised lowered : Counts) (key : KeyRecord) → IsIndexed maps → Raises maps.counts raised key → Lowers raised lowered key → IsIndexed (record maps { counts = lowered })
counts_undone maps raised lowered key s raises lowers =
    indexed maps.by_id maps.by_name lowered (values maps.by_id) s.numbered s.named
    (λ domain nspace. lowers domain nspace ∙ lowered_back (counted maps.counts domain nspace) (counted raised domain nspace) (if is_owned domain nspace key then 1 else 0) (raises domain nspace) ∙ s.owned domain nspace)
    s.orderly

pub undone : (maps : Inside) (numbers : Numbers) (put taken : NameMap) (raised lowered : Counts) (key : KeyRecord) → IsIndexed maps → AreRows (values maps.by_id ++ key ∷ []) → numbers.entries ≡ maps.by_id.entries
    → UpdatesBy name_cmp (name_cmp (key_name key)) maps.by_name put (Some key.id) → UpdatesBy name_cmp (name_cmp (key_name key)) put taken None
    → Raises maps.counts raised key → Lowers raised lowered key
    → IsIndexed (record { by_id = numbers; by_name = taken; counts = lowered })
undone maps numbers put taken raised lowered key s table e in_map out raises lowers =
    let rows = values maps.by_id in
    indexed numbers taken lowered rows (e ∙ s.numbered)
    (λ name. out.0 name ∙ rw (in_map.0 name, name_flips (key_name key) name, s.named name) (elim (cases_Bool (is_at_name name key)) [
      | inl here ↦ rw (here, absent_before name rows key table here) refl
      | inr other ↦ rw other refl
    ]))
    (λ domain nspace. lowers domain nspace ∙ lowered_back (counted maps.counts domain nspace) (counted raised domain nspace) (if is_owned domain nspace key then 1 else 0) (raises domain nspace) ∙ s.owned domain nspace)
    s.orderly

pub rows_removed : (maps : Inside) (numbers : Numbers) (id : ℕ) → IsIndexed maps → numbers.entries ≡ remove_entry (is_at (nat_cmp id)) maps.by_id.entries → numbers.entries ≡ entries_of (filter (λ key. not (has_id id key)) (values maps.by_id))
rows_removed maps numbers id s e =
    e ∙ ap (remove_entry (is_at (nat_cmp id))) s.numbered ∙ remove_rows id (values maps.by_id) s.orderly

pub removed_rows : (maps : Inside) (numbers : Numbers) (id : ℕ) → IsIndexed maps → numbers.entries ≡ remove_entry (is_at (nat_cmp id)) maps.by_id.entries → values numbers ≡ filter (λ key. not (has_id id key)) (values maps.by_id)
removed_rows maps numbers id s e = rows_of numbers (filter (λ key. not (has_id id key)) (values maps.by_id)) (rows_removed maps numbers id s e)

pub removed : (maps : Inside) (numbers : Numbers) (names : NameMap) (counts : Counts) (id : ℕ) (out : KeyRecord) → IsIndexed maps → find (has_id id) (values maps.by_id) ≡ Some out
    → numbers.entries ≡ remove_entry (is_at (nat_cmp id)) maps.by_id.entries
    → UpdatesBy name_cmp (name_cmp (key_name out)) maps.by_name names None
    → Lowers maps.counts counts out
    → IsIndexed (record { by_id = numbers; by_name = names; counts = counts })
removed maps numbers names counts id out s found e update lowers =
    let rows = values maps.by_id in
    let left = filter (λ key. not (has_id id key)) rows in
    indexed numbers names counts left (rows_removed maps numbers id s e)
    (λ name. update.0 name ∙ rw (name_flips (key_name out) name, s.named name, name_without id name rows out s.orderly found)
    (elim (cases_Bool (is_at_name name out)) [ inl here ↦ rw here refl | inr other ↦ rw other refl ]))
    (λ domain nspace. lowers domain nspace ∙ lowered_back (length (filter (is_owned domain nspace) left)) (counted maps.counts domain nspace) (if is_owned domain nspace out then 1 else 0)
    (s.owned domain nspace ∙ sym (count_without id domain nspace rows out s.orderly found)))
    (rows_filter (λ key. not (has_id id key)) rows s.orderly)

-- the key of a number changes in place
rows_set : (maps : Inside) (numbers : Numbers) (id : ℕ) (f : KeyRecord → KeyRecord) (held : KeyRecord) → ChangesKey id f → IsIndexed maps → find (has_id id) (values maps.by_id) ≡ Some held
    → numbers.entries ≡ set_value (is_at (nat_cmp id)) maps.by_id.entries (f held) → numbers.entries ≡ entries_of (map f (values maps.by_id))
rows_set maps numbers id f held is s found e =
    e ∙ ap (λ es. set_value (is_at (nat_cmp id)) es (f held)) s.numbered ∙ set_rows id f is (values maps.by_id) held s.orderly found

pub changed_rows : (maps : Inside) (numbers : Numbers) (id : ℕ) (f : KeyRecord → KeyRecord) (held : KeyRecord) → ChangesKey id f → IsIndexed maps → find (has_id id) (values maps.by_id) ≡ Some held
    → numbers.entries ≡ set_value (is_at (nat_cmp id)) maps.by_id.entries (f held) → values numbers ≡ map f (values maps.by_id)
changed_rows maps numbers id f held is s found e = rows_of numbers (map f (values maps.by_id)) (rows_set maps numbers id f held is s found e)

same_id : (f : KeyRecord → KeyRecord) → KeepsNames f → (found : Option KeyRecord) → option_map id_of (option_map f found) ≡ option_map id_of found
same_id f same None = refl
same_id f same (Some key) = ap (λ (k : KeyRecord). Some k.id) (same key)

pub changed : (maps : Inside) (numbers : Numbers) (id : ℕ) (f : KeyRecord → KeyRecord) (held : KeyRecord) → ChangesKey id f → IsIndexed maps → find (has_id id) (values maps.by_id) ≡ Some held
    → numbers.entries ≡ set_value (is_at (nat_cmp id)) maps.by_id.entries (f held) → IsIndexed (record maps { by_id = numbers })
changed maps numbers id f held is s found e =
    let rows = values maps.by_id in
    indexed numbers maps.by_name maps.counts (map f rows) (rows_set maps numbers id f held is s found e)
    (λ name. s.named name ∙ sym (ap (option_map id_of) (find_changed f (is_at_name name) is.names (λ key blob list left. refl) rows) ∙ same_id f is.names (find (is_at_name name) rows)))
    (λ domain nspace. s.owned domain nspace ∙ sym (length_changed f (is_owned domain nspace) is.names (λ key blob list left. refl) rows))
    (rows_changed f is.names rows s.orderly)
