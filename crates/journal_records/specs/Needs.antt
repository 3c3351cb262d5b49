-- What a change needs of the lasting part before it.
use Rattle.std.specs.Prelude.{ℕ, ◌^◌, Bool, ◌&&◌, ◌||◌, ◌==◌, nat_lt, nat_le, List, length, find, Option, None, Some}
use Rattle.std.specs.List.{list_any}
use Rattle.tags.specs.Descriptor.{is_alias}
use Rattle.grants.specs.declared.row.GrantRow.{GrantRow}
use Rattle.grants.specs.Rows.{is_numbered, is_for}
use Rattle.journal_records.specs.declared.change.Change.{Change}
use Rattle.journal_records.specs.declared.change.Change.TheVariants.{Create, Delete, Use, Grant, Ungrant, Clear, Removed, Upgrade}
use Rattle.journal_records.specs.declared.record.KeyRecord.{KeyRecord}
use Rattle.journal_records.specs.LastingPart.{Lasting, has_id, some_has_id, is_named, without_keys}
use Rattle.tags.specs.declared.limits.TheConstants.{BLOB_BYTES, KEPT_LIST_BYTES, MOST_GRANTS, MOST_KEYS, MOST_USER, NUMBERS_END}

-- numbers of keys and grants stay below their end
abbrev pub is_number_left : ℕ → Bool
is_number_left number = nat_lt number NUMBERS_END

-- an owner is an app's uid of 32 bits, or a namespace
abbrev pub is_owner : ℕ → ℕ → Bool
is_owner domain nspace = (domain == 2) || ((domain == 0) && nat_lt nspace (2 ^ 32))

-- no more keys than the most are live, and the key under the same name makes place for a new one
abbrev pub has_place_for : ℕ → ℕ → List ℕ → Lasting → Bool
has_place_for domain nspace alias part = nat_lt (length (without_keys (is_named domain nspace alias) part).keys) MOST_KEYS

-- a live key that has this number, with uses left; a key without a limit has none
abbrev pub has_uses : ℕ → KeyRecord → Bool
has_uses id key = has_id id key && nat_lt 0 key.left

-- a grant keeps the number of the one that its key and uid have; where there is none it takes the next one, and no
-- more than the most are held
abbrev pub is_grant_numbered : Option GrantRow → GrantRow → Lasting → Bool
is_grant_numbered (Some held) row part = row.grant == held.grant
is_grant_numbered None row part =
    (row.grant == part.next_grant) && (is_number_left row.grant && nat_lt (length part.grants) MOST_GRANTS)

-- whether the need of a change is met
abbrev pub is_met : Lasting → Change → Bool
is_met part (Create id domain nspace alias blob list limit) =
    ((id == part.next_key) && is_number_left id)
    && (is_owner domain nspace
    && (is_alias alias
    && (nat_le (length blob) BLOB_BYTES
    && (nat_le (length list) KEPT_LIST_BYTES
    && has_place_for domain nspace alias part))))
is_met part (Delete id) = some_has_id id part.keys
is_met part (Use id) = list_any (has_uses id) part.keys
is_met part (Grant row) =
    some_has_id row.key part.keys && is_grant_numbered (find (is_for row.key row.uid) part.grants) row part
is_met part (Ungrant grant) = list_any (is_numbered grant) part.grants
is_met part (Clear domain nspace) = (domain == 0) || (domain == 2)
is_met part (Removed user) = nat_le user MOST_USER
is_met part (Upgrade id blob list) =
    some_has_id id part.keys && (nat_le (length blob) BLOB_BYTES && nat_le (length list) KEPT_LIST_BYTES)
