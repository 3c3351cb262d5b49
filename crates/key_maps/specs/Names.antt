-- Names of keys: an owner and an alias, in an order in which the keys of an owner stand by their aliases.
use Rattle.std.specs.Prelude.{ℕ, ◌-◌, Bool, List, ◌++◌, length, replicate}
use Rattle.std.specs.declared.cmp.Ordering.{Ordering}
use Rattle.std.specs.Ordering.{nat_cmp, ordering_then, is_eq}
use Rattle.std.specs.Cmp.Lexicographic.{slice_cmp}
use Rattle.journal_records.specs.declared.record.KeyRecord.{KeyRecord}
use Rattle.tags.specs.declared.limits.TheConstants.{ALIAS_BYTES}

-- an owner's domain and nspace; an alias of at most the most bytes, with zeros behind it, and its length
abbrev pub Name : Type 0
Name = (ℕ × ℕ) × (List ℕ × ℕ)

abbrev pub owner_cmp : ℕ × ℕ → ℕ × ℕ → Ordering
owner_cmp a b = ordering_then (nat_cmp a.0 b.0) (nat_cmp a.1 b.1)

abbrev pub padded_cmp : List ℕ × ℕ → List ℕ × ℕ → Ordering
padded_cmp a b = ordering_then (slice_cmp nat_cmp a.0 b.0) (nat_cmp a.1 b.1)

abbrev pub name_cmp : Name → Name → Ordering
name_cmp a b = ordering_then (owner_cmp a.0 b.0) (padded_cmp a.1 b.1)

-- the bytes with zeros behind them, n in all
unfoldable pub padded : ℕ → List ℕ → List ℕ
padded n alias = alias ++ replicate (n - length alias) 0

-- the name of an owner's key of this alias
abbrev pub name_of : ℕ → ℕ → List ℕ → Name
name_of domain nspace alias = ((domain, nspace), (padded ALIAS_BYTES alias, length alias))

abbrev pub key_name : KeyRecord → Name
key_name key = name_of key.domain key.nspace key.alias

-- whether a key has this name
abbrev pub is_at_name : Name → KeyRecord → Bool
is_at_name name key = is_eq (name_cmp name (key_name key))
