-- The lasting part that the inside of a table holds, and its room.
use Rattle.std.specs.Prelude.{ℕ, ◌+◌, Bool, ◌&&◌, nat_le, List, length, Option, None, Some}
use Rattle.tags.specs.Descriptor.{is_alias}
use Rattle.tags.specs.declared.limits.TheConstants.{BLOB_BYTES, KEPT_LIST_BYTES}
use Rattle.journal_records.specs.declared.record.KeyRecord.{KeyRecord}
use Rattle.journal_records.specs.LastingPart.{Lasting}
use Rattle.journal_records.specs.Needs.{has_place_for, is_owner}
use Rattle.journal_records.specs.Storable.{key_row_length}
use Rattle.lasting_table.specs.declared.part.Part.{Part}
use Rattle.lasting_table.specs.TableView.{TableView}

-- the lasting part
abbrev pub part_of : Part → Lasting
part_of part = record { keys = part.keys.rows; grants = part.grants.rows; next_key = part.next_key; next_grant = part.next_grant }

-- the lasting part, with the room
abbrev pub held_of : Part → TableView
held_of part = record { part = part_of part; key_places = part.keys.spare; grant_places = part.grants.spare }

-- there may be one more key of this owner, alias and lengths of blob and list
abbrev pub may_be : ℕ → ℕ → List ℕ → ℕ → ℕ → Lasting → Bool
may_be domain nspace alias blob list part =
    is_owner domain nspace && (is_alias alias && (nat_le blob BLOB_BYTES && (nat_le list KEPT_LIST_BYTES && has_place_for domain nspace alias part)))

-- how many bytes the blob and the list of a key have, where one is found
abbrev pub parts_bytes : Option KeyRecord → ℕ
parts_bytes None = 0
parts_bytes (Some key) = length key.blob + length key.list

-- how many bytes the row of a key has, where one is found
abbrev pub row_bytes : Option KeyRecord → ℕ
row_bytes None = 0
row_bytes (Some key) = key_row_length key
