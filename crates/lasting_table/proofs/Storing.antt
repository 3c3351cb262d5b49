-- What a store can hold stays so by each row of a snapshot; and a row that may be held stands behind the others.
use Rattle.std.proofs.Common.{◌≡◌, ℕ, ◌<◌, ◌≤◌, ◌^◌, true, false, not, ◌&&◌, ◌==◌, List, [], ◌∷◌, ◌++◌, length, Some, None, refl, ap, ◌∙◌, arith}
use Rattle.std.specs.Prelude.{find, reverse, nat_lt, nat_le}
use Rattle.std.specs.Option.{option_and_then}
use Rattle.std.specs.List.{AllByRecursion, list_all, list_any}
use Rattle.std.proofs.lemmas.Bool.{and_parts, eq-eqb, leb-true, ltb-true, not-true, ne_eqb}
use Rattle.grants.specs.declared.row.GrantRow.{GrantRow}
use Rattle.grants.specs.Rows.{is_for, is_numbered}
use Rattle.grants.proofs.Finding.{all_more, find_none}
use Rattle.tags.specs.Descriptor.{is_alias}
use Rattle.tags.specs.declared.limits.TheConstants.{ALIAS_BYTES, BLOB_BYTES, KEPT_LIST_BYTES, MOST_GRANTS}
use Rattle.journal_records.specs.declared.record.KeyRecord.{KeyRecord}
use Rattle.journal_records.specs.declared.record.Record.{Record}
use Rattle.journal_records.specs.declared.record.Record.TheVariants as records
use Rattle.journal_records.specs.LastingPart.{Lasting, empty_lasting, is_named, some_has_id}
use Rattle.journal_records.specs.Needs.{is_met, is_owner, is_number_left, has_place_for}
use Rattle.journal_records.specs.Spelling.{AreRecordFields, IsRecord}
use Rattle.journal_records.specs.States.{AmongRows, AtStart, ReadState, after_in, has_uses_within, is_given, is_next_number, making, may_hold, may_hold_grant, met_in, state_of, stepped}
use Rattle.journal_records.specs.Storable.{IsStorable, area_kinds, snapshot}
use Rattle.journal_records.proofs.Leaving.{leaves_storable}
use Rattle.journal_records.proofs.Lists.{all_from_test, none_from_test}
use Rattle.journal_records.proofs.Restoring.{restores_storable}
use Rattle.journal_records.proofs.SnapshotBytes.{held_grant_long, held_long, next_long, snapshot_records}
use Rattle.lasting_table.specs.Parts.{may_be}
use Rattle.key_maps.specs.Rows.{AreBelow, AreRows, IsFit, NonePass}
use Rattle.lasting_table.proofs.Ends.{before_new, below_push}
use Rattle.key_maps.proofs.KeyRows.{rows_more}
use Rattle.lasting_table.proofs.Lengths.{alias_long, owner_small}

-- ---- what the tests say

pub record IsHeldKey (part : Lasting) (key : KeyRecord) : Type 0 where
  pub given : (1 ≤ key.id) × (key.id < part.next_key)
  pub below : AllByRecursion (λ (held : KeyRecord). held.id < key.id) part.keys
  pub free : NonePass (is_named key.domain key.nspace key.alias) part.keys
  pub owner : is_owner key.domain key.nspace ≡ true
  pub alias : length key.alias ≤ ALIAS_BYTES
  pub blob : length key.blob ≤ BLOB_BYTES
  pub list : length key.list ≤ KEPT_LIST_BYTES

-- the need of a key that is held, by what the code tests of it
pub holds_as : (part : Lasting) (key : KeyRecord) → (is_number_left key.id && may_be key.domain key.nspace key.alias (length key.blob) (length key.list) part) ≡ is_met (record part { next_key = key.id }) (making key)
holds_as part key =
    let same : (key.id == key.id) ≡ true = eq-eqb key.id key.id refl in
    rw same refl

pub held_parts : (part : Lasting) (key : KeyRecord) → may_hold part key ≡ true → IsHeldKey part key
held_parts part key may =
    let named = is_named key.domain key.nspace key.alias in
    let behind = list_all (λ (held : KeyRecord). nat_lt held.id key.id) part.keys in
    let free = not (list_any named part.keys) in
    let uses = has_uses_within key.limit key.left in
    let place = has_place_for key.domain key.nspace key.alias part in
    let parts = may_be key.domain key.nspace key.alias (length key.blob) (length key.list) part in
    let a = and_parts (is_given key.id part.next_key) (behind && (free && (uses && is_met (record part { next_key = key.id }) (making key)))) may in
    let b = and_parts behind (free && (uses && is_met (record part { next_key = key.id }) (making key))) a.1 in
    let c = and_parts free (uses && is_met (record part { next_key = key.id }) (making key)) b.1 in
    let d = and_parts uses (is_met (record part { next_key = key.id }) (making key)) c.1 in
    let e = and_parts (is_number_left key.id) parts (holds_as part key ∙ d.1) in
    let f = and_parts (is_owner key.domain key.nspace) (is_alias key.alias && (nat_le (length key.blob) BLOB_BYTES && (nat_le (length key.list) KEPT_LIST_BYTES && place))) e.1 in
    let g = and_parts (is_alias key.alias) (nat_le (length key.blob) BLOB_BYTES && (nat_le (length key.list) KEPT_LIST_BYTES && place)) f.1 in
    let h = and_parts (nat_le (length key.blob) BLOB_BYTES) (nat_le (length key.list) KEPT_LIST_BYTES && place) g.1 in
    let i = and_parts (nat_le (length key.list) KEPT_LIST_BYTES) place h.1 in
    let numbers = and_parts (nat_le 1 key.id) (nat_lt key.id part.next_key) a.0 in
    record {
      given = (leb-true 1 key.id numbers.0, ltb-true key.id part.next_key numbers.1);
      below = all_more (λ (held : KeyRecord). nat_lt held.id key.id ≡ true) (λ held. held.id < key.id) (λ held less. ltb-true held.id key.id less) part.keys (all_from_test (λ (held : KeyRecord). nat_lt held.id key.id) part.keys b.0);
      free = none_from_test named part.keys (not-true (list_any named part.keys) c.0);
      owner = f.0;
      alias = alias_long key.alias g.0;
      blob = leb-true (length key.blob) BLOB_BYTES h.0;
      list = leb-true (length key.list) KEPT_LIST_BYTES i.0;
    }

pub record IsHeldGrant (part : Lasting) (row : GrantRow) : Type 0 where
  pub given : (1 ≤ row.grant) × (row.grant < part.next_grant)
  pub below : AllByRecursion (λ (held : GrantRow). held.grant < row.grant) part.grants
  pub free : find (is_for row.key row.uid) part.grants ≡ None

pub held_grant_parts : (part : Lasting) (row : GrantRow) → may_hold_grant part row ≡ true → IsHeldGrant part row
held_grant_parts part row may =
    let behind = list_all (λ (held : GrantRow). nat_lt held.grant row.grant) part.grants in
    let live = some_has_id row.key part.keys in
    let free = not (list_any (is_for row.key row.uid) part.grants) in
    let place = nat_lt (length part.grants) MOST_GRANTS in
    let a = and_parts (is_given row.grant part.next_grant) (behind && (live && (free && place))) may in
    let b = and_parts behind (live && (free && place)) a.1 in
    let c = and_parts live (free && place) b.1 in
    let d = and_parts free place c.1 in
    let numbers = and_parts (nat_le 1 row.grant) (nat_lt row.grant part.next_grant) a.0 in
    record {
      given = (leb-true 1 row.grant numbers.0, ltb-true row.grant part.next_grant numbers.1);
      below = all_more (λ (held : GrantRow). nat_lt held.grant row.grant ≡ true) (λ held. held.grant < row.grant) (λ held less. ltb-true held.grant row.grant less) part.grants (all_from_test (λ (held : GrantRow). nat_lt held.grant row.grant) part.grants b.0);
      free = find_none (is_for row.key row.uid) part.grants (none_from_test (is_for row.key row.uid) part.grants (not-true (list_any (is_for row.key row.uid) part.grants) d.0));
    }

-- ---- rows behind the others

pub held_fit : (part : Lasting) (key : KeyRecord) → may_hold part key ≡ true → IsFit key
held_fit part key may = let held = held_parts part key may in (held.alias, owner_small key.domain key.nspace held.owner)

pub held_rows : (part : Lasting) (key : KeyRecord) → AreRows part.keys → may_hold part key ≡ true → AreRows (part.keys ++ key ∷ [])
held_rows part key t may =
    let held = held_parts part key may in
    rows_more part.keys key t (held_fit part key may) (before_new part.keys key held.below held.free)

pub held_below : (part : Lasting) (key : KeyRecord) → AreBelow part.next_key part.keys → may_hold part key ≡ true → AreBelow part.next_key (part.keys ++ key ∷ [])
held_below part key below may = let held = held_parts part key may in below_push part.next_key part.keys key below held.given.1

-- no grant has the number of a new one, or a greater one
pub grant_next : (rows : List GrantRow) (number : ℕ) → AllByRecursion (λ (held : GrantRow). held.grant < number) rows → (other : ℕ) → number ≤ other → find (is_numbered other) rows ≡ None
grant_next rows number below other le = find_none (is_numbered other) rows
    (all_more (λ (held : GrantRow). held.grant < number) (λ held. is_numbered other held ≡ false) (λ held less. not_that held.grant less) rows below)
  where
    not_that : (grant : ℕ) → grant < number → (grant == other) ≡ false
    not_that grant less = ne_eqb grant other (λ same. omega (arith, same, less, le))

-- ---- what a store can hold

-- a record behind the snapshot of what it can hold
behind_snapshot : (part : Lasting) (it : Record) → IsStorable part → IsRecord area_kinds it → met_in (record { part = part; phase = AmongRows }) it ≡ true → IsStorable (after_in (record { part = part; phase = AmongRows }) it).part
behind_snapshot part it is fits met =
    let before : ReadState = record { part = part; phase = AmongRows } in
    let left : state_of (it ∷ reverse (snapshot part)) ≡ Some (after_in before it) =
    ap (option_and_then (λ (state : ReadState). stepped state it)) (restores_storable part is) ∙ rw met refl in
    leaves_storable (it ∷ reverse (snapshot part)) (after_in before it) (fits, snapshot_records part is) left

pub held_storable : (part : Lasting) (key : KeyRecord) → AreRecordFields (records.Held key) → may_hold part key ≡ true → IsStorable part → IsStorable (record part { keys = part.keys ++ key ∷ [] })
held_storable part key fields may is =
    let held = held_parts part key may in
    behind_snapshot part (records.Held key) is (fields, omega (arith, held_long key, held.alias, held.blob, held.list), omega arith) may

pub held_grant_storable : (part : Lasting) (row : GrantRow) → AreRecordFields (records.HeldGrant row) → may_hold_grant part row ≡ true → IsStorable part → IsStorable (record part { grants = part.grants ++ row ∷ [] })
held_grant_storable part row fields may is = behind_snapshot part (records.HeldGrant row) is (fields, omega (arith, held_grant_long row), omega arith) may

pub begun_storable : (key grant : ℕ) → key < 2 ^ 64 → grant < 2 ^ 64 → (is_next_number key && is_next_number grant) ≡ true → IsStorable (record empty_lasting { next_key = key; next_grant = grant })
begun_storable key grant wide also met =
    let begins : ReadState = record { part = empty_lasting; phase = AtStart } in
    let left : state_of (records.Next key grant ∷ []) ≡ Some (after_in begins (records.Next key grant)) = rw met refl in
    leaves_storable (records.Next key grant ∷ []) (after_in begins (records.Next key grant)) (((wide, also), omega (arith, next_long key grant), omega arith), tt) left

pub empty_storable : IsStorable empty_lasting
empty_storable = leaves_storable [] (record { part = empty_lasting; phase = AtStart }) tt refl
