-- The listing of an owner's keys.
use Rattle.std.specs.Prelude.{ℕ, zero, suc, List, [], ◌∷◌, Option, Some, None}
use Rattle.journal_records.specs.declared.record.KeyRecord.{KeyRecord}
use Rattle.journal_records.specs.LastingPart.{Lasting}
use Rattle.journal_records.specs.Lookups.{next_key}
use Rattle.tags.specs.declared.limits.TheConstants.{LISTED}

-- at most so many of an owner's keys, each of the least alias greater than the one before; an alias with the key's number
unfoldable pub listed_from : ℕ → Lasting → ℕ → ℕ → Option (List ℕ) → List (List ℕ × ℕ)
listed_from zero part domain nspace past = []
listed_from (suc most) part domain nspace past = behind (next_key part domain nspace past) (λ alias. listed_from most part domain nspace (Some alias)) where
  behind : Option KeyRecord → (List ℕ → List (List ℕ × ℕ)) → List (List ℕ × ℕ)
  behind None rest = []
  behind (Some key) rest = (key.alias, key.id) ∷ rest key.alias

-- a page: so many keys of an owner behind an alias, in the order of their aliases
abbrev pub listing : Lasting → ℕ → ℕ → Option (List ℕ) → List (List ℕ × ℕ)
listing part domain nspace past = listed_from LISTED part domain nspace past
