-- Rows of keys, as lists.
use Rattle.std.specs.Prelude.{◌≡◌, ◌<◌, ◌≤◌, ℕ, Bool, false, List, [], ◌∷◌, length, find, Option, None, ⊤}
use Rattle.std.specs.List.{AllByRecursion}
use Rattle.grants.specs.Rows.{is_behind}
use Rattle.journal_records.specs.declared.record.KeyRecord.{KeyRecord}
use Rattle.journal_records.specs.LastingPart.{has_id, is_named}
use Rattle.tags.specs.declared.limits.TheConstants.{ALIAS_BYTES}

-- the later key has a greater number, and another name
abbrev pub IsBefore : KeyRecord → KeyRecord → Type 0
IsBefore key later = (key.id < later.id) × (is_named key.domain key.nspace key.alias later ≡ false)

-- an alias that is not too long, and a domain of one byte
abbrev pub IsFit : KeyRecord → Type 0
IsFit key = (length key.alias ≤ ALIAS_BYTES) × (key.domain < 256)

-- the numbers rise, and no two keys have one name
abbrev pub AreRows : List KeyRecord → Type 0
AreRows [] = ⊤
AreRows (key ∷ keys) = IsFit key × AllByRecursion (IsBefore key) keys × AreRows keys

-- no key has this number, or a greater one
abbrev pub AreBelow : ℕ → List KeyRecord → Type 0
AreBelow number keys = (id : ℕ) → number ≤ id → find (has_id id) keys ≡ None

-- whether a key's number is greater than past; each is greater than none
abbrev pub is_past : Option ℕ → KeyRecord → Bool
is_past past key = is_behind past key.id

-- no key passes the test
abbrev pub NonePass : (KeyRecord → Bool) → List KeyRecord → Type 0
NonePass test keys = AllByRecursion (λ key. test key ≡ false) keys
