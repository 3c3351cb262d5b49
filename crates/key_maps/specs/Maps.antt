-- The maps by name and of counts, beside the keys that stand under their numbers.
use Rattle.std.specs.Prelude.{◌≡◌, ℕ, List, map, find, filter, length}
use Rattle.std.specs.Option.{option_map}
use Rattle.std.specs.Map.{count_at}
use Rattle.std.specs.BTreeMap.{BTreeMap, get, values}
use Rattle.journal_records.specs.declared.record.KeyRecord.{KeyRecord}
use Rattle.journal_records.specs.LastingPart.{is_owned}
use Rattle.key_maps.specs.declared.maps.KeyMaps.TheInside.{Inside}
use Rattle.key_maps.specs.Names.{Name, owner_cmp, name_cmp, is_at_name}
use Rattle.key_maps.specs.Rows.{AreRows}

-- each key under its number
abbrev pub entries_of : List KeyRecord → List (ℕ × KeyRecord)
entries_of keys = map (λ (key : KeyRecord). (key.id, key)) keys

-- the number of the key that is found
abbrev pub id_of : KeyRecord → ℕ
id_of key = key.id

-- how many keys an owner has, by the map of counts
abbrev pub counted : BTreeMap (ℕ × ℕ) ℕ → ℕ → ℕ → ℕ
counted counts domain nspace = count_at (get owner_cmp counts) (domain, nspace)

-- the first map has each key under its number, the second the number of each under its name, and the third how many
-- keys an owner has
pub record IsIndexed (maps : Inside) : Type 0 where
  pub numbered : maps.by_id.entries ≡ entries_of (values maps.by_id)
  pub named : (name : Name) → get name_cmp maps.by_name name ≡ option_map id_of (find (is_at_name name) (values maps.by_id))
  pub owned : (domain nspace : ℕ) → counted maps.counts domain nspace ≡ length (filter (is_owned domain nspace) (values maps.by_id))
  pub orderly : AreRows (values maps.by_id)
