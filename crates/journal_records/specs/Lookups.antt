-- What the look-ups find in a lasting part.
use Rattle.std.specs.Prelude.{◌≡◌, ℕ, Bool, true, false, List, Option, None, Some, IsSome, find, filter, length, ◌&&◌, [], ◌∷◌, if◌then◌else◌}
use Rattle.std.specs.Option.{option_map, option_and_then}
use Rattle.std.specs.declared.cmp.Ordering.{Ordering}
use Rattle.std.specs.Ordering.{nat_cmp, is_lt, is_gt}
use Rattle.std.specs.Cmp.Lexicographic.{slice_cmp}
use Rattle.key_domains.specs.declared.view.KeyRow.{KeyRow}
use Rattle.key_domains.specs.declared.view.GrantedRow.{GrantedRow}
use Rattle.grants.specs.declared.row.GrantRow.{GrantRow}
use Rattle.grants.specs.Rows.{is_numbered, is_for}
use Rattle.journal_records.specs.declared.record.KeyRecord.{KeyRecord}
use Rattle.journal_records.specs.LastingPart.{Lasting, has_id, is_owned, is_named}

-- the live key of a number
abbrev pub key_of_id : Lasting → ℕ → Option KeyRecord
key_of_id part id = find (has_id id) part.keys

-- the live key of an owner and an alias
abbrev pub key_of_name : Lasting → ℕ → ℕ → List ℕ → Option KeyRecord
key_of_name part domain nspace alias = find (is_named domain nspace alias) part.keys

-- aliases in the order of their bytes; one that is the front of another stands before it
abbrev pub alias_cmp : List ℕ → List ℕ → Ordering
alias_cmp alias other = slice_cmp nat_cmp alias other

-- whether an alias is greater than another, by its bytes; each is greater than none
abbrev pub is_after : Option (List ℕ) → List ℕ → Bool
is_after None alias = true
is_after (Some past) alias = is_lt (alias_cmp past alias)

-- the owner's key of the least alias greater than past
pub record IsNextNamed (rows : List KeyRecord) (domain nspace : ℕ) (past : Option (List ℕ)) (key : KeyRecord) : Type 0 where
  pub owned : (key.domain ≡ domain) × (key.nspace ≡ nspace)
  pub held : find (is_named domain nspace key.alias) rows ≡ Some key
  pub after : is_after past key.alias ≡ true
  pub least : (alias : List ℕ) → is_after past alias ≡ true → IsSome (find (is_named domain nspace alias) rows) → is_gt (alias_cmp key.alias alias) ≡ false

-- that key, or that the owner has none with a greater alias
abbrev pub IsNextName : List KeyRecord → ℕ → ℕ → Option (List ℕ) → Option KeyRecord → Type 0
IsNextName rows domain nspace past None = (alias : List ℕ) → is_after past alias ≡ true → find (is_named domain nspace alias) rows ≡ None
IsNextName rows domain nspace past (Some key) = IsNextNamed rows domain nspace past key

-- this is the owner's live key of the least alias greater than past, or there is none
abbrev pub IsNextKey : Lasting → ℕ → ℕ → Option (List ℕ) → Option KeyRecord → Type 0
IsNextKey part domain nspace past found = IsNextName part.keys domain nspace past found

-- an owner's key of an alias greater than past
abbrev pub is_listed : ℕ → ℕ → Option (List ℕ) → KeyRecord → Bool
is_listed domain nspace past key = is_owned domain nspace key && is_after past key.alias

-- of a key and another, if there is one, that of the lesser alias
abbrev pub lesser : KeyRecord → Option KeyRecord → KeyRecord
lesser key None = key
lesser key (Some other) = if is_gt (alias_cmp key.alias other.alias) then other else key

-- of keys that of the least alias
abbrev pub least : List KeyRecord → Option KeyRecord
least [] = None
least (key ∷ keys) = Some (lesser key (least keys))

-- an owner's live key of the least alias greater than past
abbrev pub next_key : Lasting → ℕ → ℕ → Option (List ℕ) → Option KeyRecord
next_key part domain nspace past = least (filter (is_listed domain nspace past) part.keys)

-- how many live keys an owner has
abbrev pub key_count : Lasting → ℕ → ℕ → ℕ
key_count part domain nspace = length (filter (is_owned domain nspace) part.keys)

-- a key, as far as access to it goes
abbrev pub row_of : KeyRecord → KeyRow
row_of key = record { id = key.id; domain = key.domain; nspace = key.nspace }

-- the live key of an owner and an alias, as far as access goes
abbrev pub named_in : Lasting → ℕ → ℕ → List ℕ → Option KeyRow
named_in part domain nspace alias = option_map row_of (key_of_name part domain nspace alias)

-- the live key of a number, so
abbrev pub numbered_in : Lasting → ℕ → Option KeyRow
numbered_in part id = option_map row_of (key_of_id part id)

-- a grant with its live key
abbrev pub granted_of : Lasting → GrantRow → Option GrantedRow
granted_of part row = option_map (λ (key : KeyRow). record { key = key; uid = row.uid; bits = row.bits }) (numbered_in part row.key)

-- the grant of a number, with its live key
abbrev pub granted_in : Lasting → ℕ → Option GrantedRow
granted_in part grant = option_and_then (granted_of part) (find (is_numbered grant) part.grants)

-- the bits of the grant of a key to a uid
abbrev pub shared_in : Lasting → ℕ → ℕ → Option ℕ
shared_in part key uid = option_map (λ (row : GrantRow). row.bits) (find (is_for key uid) part.grants)
