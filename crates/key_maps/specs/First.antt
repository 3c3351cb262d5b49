-- The first key from a place in the order of names.
use Rattle.std.specs.Prelude.{◌≡◌, ℕ, false, List, [], take, find, Option, None, Some, IsSome}
use Rattle.std.specs.Ordering.{is_gt}
use Rattle.std.specs.declared.ops.Bound.{Bound}
use Rattle.std.specs.declared.ops.Bound.TheVariants.{Included, Excluded}
use Rattle.std.specs.BTreeMap.Range.{IsFromStart}
use Rattle.journal_records.specs.declared.record.KeyRecord.{KeyRecord}
use Rattle.key_maps.specs.Names.{Name, name_cmp, name_of, key_name, is_at_name}
use Rattle.tags.specs.declared.limits.TheConstants.{ALIAS_BYTES}

-- a key of these, whose name is not before the start, and not behind that of another such key
pub record IsLeast (keys : List KeyRecord) (start : Bound Name) (key : KeyRecord) : Type 0 where
  pub held : find (is_at_name (key_name key)) keys ≡ Some key
  pub from : IsFromStart name_cmp start (key_name key)
  pub least : (name : Name) → IsFromStart name_cmp start name → IsSome (find (is_at_name name) keys) → is_gt (name_cmp (key_name key) name) ≡ false

-- the key that is found first from the start on, or that there is none
abbrev pub IsFirstFrom : List KeyRecord → Bound Name → Option KeyRecord → Type 0
IsFirstFrom keys start None = (name : Name) → IsFromStart name_cmp start name → find (is_at_name name) keys ≡ None
IsFirstFrom keys start (Some key) = IsLeast keys start key

-- where the keys of an owner with an alias greater than past begin
abbrev pub start_of : ℕ → ℕ → Option (List ℕ) → Bound Name
start_of domain nspace None = Included (name_of domain nspace [])
start_of domain nspace (Some past) = Excluded (name_of domain nspace (take ALIAS_BYTES past))
