-- The lasting part: what of the service outlives a restart.
use Rattle.std.specs.Prelude.{ℕ, ◌/◌, Bool, ◌&&◌, ◌==◌, not, List, [], filter}
use Rattle.std.specs.List.{list_any}
use Rattle.std.specs.Str.{bytes_eq}
use Rattle.grants.specs.declared.row.GrantRow.{GrantRow}
use Rattle.journal_records.specs.declared.record.KeyRecord.{KeyRecord}
use Rattle.tags.specs.declared.limits.TheConstants.{USER_UIDS}

-- the live keys in the order of their numbers, the grants in the order of theirs, and the numbers that the next key
-- and the next grant take
pub record Lasting : Type 0 where
  pub keys : List KeyRecord
  pub grants : List GrantRow
  pub next_key : ℕ
  pub next_grant : ℕ

-- no key and no grant yet; numbers count from 1
abbrev pub empty_lasting : Lasting
empty_lasting = record { keys = []; grants = []; next_key = 1; next_grant = 1 }

-- whether a key has this number
abbrev pub has_id : ℕ → KeyRecord → Bool
has_id id key = key.id == id

-- whether one of the keys has this number
abbrev pub some_has_id : ℕ → List KeyRecord → Bool
some_has_id id keys = list_any (has_id id) keys

-- whether a key is this owner's: an app's uid (domain 0), or a namespace (domain 2)
abbrev pub is_owned : ℕ → ℕ → KeyRecord → Bool
is_owned domain nspace key = (key.domain == domain) && (key.nspace == nspace)

-- whether a key is that of an owner with this alias
abbrev pub is_named : ℕ → ℕ → List ℕ → KeyRecord → Bool
is_named domain nspace alias key = is_owned domain nspace key && bytes_eq key.alias alias

-- whether a key is an app's whose uid has this user: a uid's user is the uid divided by 100,000
abbrev pub is_of_user : ℕ → KeyRecord → Bool
is_of_user user key = (key.domain == 0) && (key.nspace / USER_UIDS == user)

-- the keys that pass the test end, and with them their grants
abbrev pub without_keys : (KeyRecord → Bool) → Lasting → Lasting
without_keys ends part = record part {
  keys = filter (λ key. not (ends key)) part.keys;
  grants = filter (λ row. not (some_has_id row.key (filter ends part.keys))) part.grants;
}
