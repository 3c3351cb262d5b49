-- What a store can hold, and the snapshot of it.
use Rattle.std.specs.Prelude.{◌≡◌, ◌<◌, ◌≤◌, ℕ, ◌+◌, ◌*◌, ◌^◌, true, false, List, [], ◌∷◌, ◌++◌, length, map, reverse, Some, ⊤}
use Rattle.std.specs.List.{AllByRecursion}
use Rattle.tags.specs.Descriptor.{is_alias}
use Rattle.grants.specs.declared.row.GrantRow.{GrantRow}
use Rattle.grants.specs.Rows.{IsTable}
use Rattle.journal_records.specs.declared.record.TheConstants.{AREA_KINDS}
use Rattle.journal_records.specs.declared.record.KeyRecord.{KeyRecord}
use Rattle.journal_records.specs.declared.record.Record.{Record}
use Rattle.journal_records.specs.declared.record.Record.TheVariants as records
use Rattle.journal_records.specs.declared.writing.TheConstants.{GRANT_ROW, KEY_ROW, NEXT_ROW}
use Rattle.journal_records.specs.LastingPart.{Lasting, is_named, some_has_id}
use Rattle.journal_records.specs.Needs.{is_owner}
use Rattle.journal_records.specs.Spelling.{IsRecord, spelled}
use Rattle.journal_records.specs.States.{AmongRows, ReadState, state_of}
use Rattle.tags.specs.declared.limits.TheConstants.{BLOB_BYTES, KEPT_LIST_BYTES, MOST_GRANTS, MOST_KEYS, NUMBERS_END}

-- ---- the snapshot of a lasting part

abbrev pub held_key : KeyRecord → Record
held_key key = records.Held key

abbrev pub held_grant : GrantRow → Record
held_grant row = records.HeldGrant row

-- its records in their order: the next numbers, the keys, the grants
abbrev pub snapshot : Lasting → List Record
snapshot part = records.Next part.next_key part.next_grant ∷ (map held_key part.keys ++ map held_grant part.grants)

-- how many bytes the row of a key has
abbrev pub key_row_length : KeyRecord → ℕ
key_row_length key = KEY_ROW + length key.alias + length key.blob + length key.list

-- how many bytes those of keys have
abbrev pub key_rows_length : List KeyRecord → ℕ
key_rows_length [] = 0
key_rows_length (key ∷ keys) = key_row_length key + key_rows_length keys

-- how many bytes its records have
abbrev pub snapshot_length : Lasting → ℕ
snapshot_length part = NEXT_ROW + (key_rows_length part.keys + GRANT_ROW * length part.grants)

-- ---- what a store can hold

-- a key: its number was given, each part is as a new key has it, and uses are left up to its limit, where it has one
pub record IsStorableKey (next : ℕ) (key : KeyRecord) : Type 0 where
  pub numbered : (1 ≤ key.id) × (key.id < next)
  pub owner : is_owner key.domain key.nspace ≡ true
  pub nspace : key.nspace < 2 ^ 64
  pub alias : is_alias key.alias ≡ true
  pub blob : length key.blob ≤ BLOB_BYTES
  pub list : length key.list ≤ KEPT_LIST_BYTES
  pub limit : key.limit < 2 ^ 32
  pub uses : (key.left ≤ key.limit) × (1 ≤ key.limit → 1 ≤ key.left)

-- the later key has a greater number, and another name
abbrev pub IsKeyBefore : KeyRecord → KeyRecord → Type 0
IsKeyBefore key later = (key.id < later.id) × (is_named key.domain key.nspace key.alias later ≡ false)

-- the numbers rise, and no two keys have one name
abbrev pub AreKeys : List KeyRecord → Type 0
AreKeys [] = ⊤
AreKeys (key ∷ keys) = AllByRecursion (IsKeyBefore key) keys × AreKeys keys

-- a grant: its number was given, and its key is live
pub record IsStorableGrant (next : ℕ) (keys : List KeyRecord) (row : GrantRow) : Type 0 where
  pub numbered : (1 ≤ row.grant) × (row.grant < next)
  pub live : some_has_id row.key keys ≡ true
  pub fields : (row.key < 2 ^ 64) × (row.uid < 2 ^ 32) × (row.bits < 2 ^ 32)

-- what a store can hold
pub record IsStorable (part : Lasting) : Type 0 where
  pub keys : AllByRecursion (IsStorableKey part.next_key) part.keys
  pub keys_differ : AreKeys part.keys
  pub key_count : length part.keys ≤ MOST_KEYS
  pub grants : AllByRecursion (IsStorableGrant part.next_grant part.keys) part.grants
  pub grants_differ : IsTable part.grants
  pub grant_count : length part.grants ≤ MOST_GRANTS
  pub next_key : (1 ≤ part.next_key) × (part.next_key ≤ NUMBERS_END)
  pub next_grant : (1 ≤ part.next_grant) × (part.next_grant ≤ NUMBERS_END)

-- ---- the laws

-- the greatest kind of record that an area may hold
abbrev pub area_kinds : ℕ
area_kinds = AREA_KINDS

-- what records leave, each with its need met, is what a store can hold
abbrev pub LeavesStorable : Type 0
LeavesStorable = (past : List Record) (state : ReadState) → AllByRecursion (IsRecord area_kinds) past → state_of past ≡ Some state → IsStorable state.part

-- the snapshot of what a store can hold leaves just that, with its need met at each record
abbrev pub RestoresStorable : Type 0
RestoresStorable = (part : Lasting) → IsStorable part → state_of (reverse (snapshot part)) ≡ Some (record { part = part; phase = AmongRows })

-- the snapshot of what a store can hold is records, of so many bytes
abbrev pub SpellsStorable : Type 0
SpellsStorable = (part : Lasting) → IsStorable part →
    AllByRecursion (IsRecord area_kinds) (reverse (snapshot part)) × (length (spelled (reverse (snapshot part))) ≡ snapshot_length part)
