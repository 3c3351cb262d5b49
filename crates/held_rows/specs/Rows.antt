-- The rows of a lasting part, one behind the other. They stand there in the order of their numbers, so the first whose number is greater is
-- the one of the least number that is.
use Rattle.std.specs.Prelude.{ℕ, nat_lt, Bool, Option, find}
use Rattle.grants.specs.declared.row.GrantRow.{GrantRow}
use Rattle.journal_records.specs.declared.record.KeyRecord.{KeyRecord}
use Rattle.journal_records.specs.LastingPart.{Lasting}
use Rattle.held_rows.specs.declared.row.HeldRow.{HeldRow}

-- whether a key's number is greater
abbrev pub is_key_past : ℕ → KeyRecord → Bool
is_key_past past key = nat_lt past key.id

-- whether a grant's is
abbrev pub is_grant_past : ℕ → GrantRow → Bool
is_grant_past past row = nat_lt past row.grant

-- the key of the least number greater than past
abbrev pub key_after : Lasting → ℕ → Option KeyRecord
key_after part past = find (is_key_past past) part.keys

-- the grant of the least number greater than past
abbrev pub grant_after : Lasting → ℕ → Option GrantRow
grant_after part past = find (is_grant_past past) part.grants

-- a grant in numbers
abbrev pub held_row : GrantRow → HeldRow
held_row row = record { grant = row.grant; key = row.key; uid = row.uid; bits = row.bits }

-- the grant of these numbers
abbrev pub grant_of : HeldRow → GrantRow
grant_of row = record { grant = row.grant; key = row.key; uid = row.uid; bits = row.bits }
