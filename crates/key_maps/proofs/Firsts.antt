-- What a range of the map by name tells of the keys.
use Rattle.std.proofs.Common.{◌≡◌, ℕ, true, false, List, [], ◌∷◌, Option, Some, None, refl, sym, ap, ◌∙◌, subst}
use Rattle.std.specs.Prelude.{find, IsSome}
use Rattle.std.specs.Option.{option_map}
use Rattle.std.specs.Ordering.{nat_cmp, is_eq, is_gt}
use Rattle.std.specs.declared.cmp.Ordering.{Ordering}
use Rattle.std.specs.declared.cmp.Ordering.TheVariants.{Less, Equal, Greater}
use Rattle.std.specs.declared.ops.Bound.{Bound}
use Rattle.std.specs.declared.ops.Bound.TheVariants.{Unbounded}
use Rattle.std.specs.BTreeMap.{get, values}
use Rattle.std.specs.BTreeMap.Range.{IsRangeOf, IsFromStart}
use Rattle.std.proofs.lemmas.Map.Lookups.{CmpEqualImpliesEq, exact_unsigned, exact_bytes, exact_pairs}
use Rattle.std.proofs.lemmas.Option.{none-some, same_Some}
use Rattle.grants.proofs.Finding.{found_passes}
use Rattle.journal_records.specs.declared.record.KeyRecord.{KeyRecord}
use Rattle.journal_records.specs.LastingPart.{has_id}
use Rattle.key_maps.specs.declared.maps.KeyMaps.TheInside.{Inside}
use Rattle.key_maps.specs.Names.{Name, owner_cmp, padded_cmp, name_cmp, key_name, is_at_name}
use Rattle.key_maps.specs.Maps.{IsIndexed, id_of}
use Rattle.key_maps.specs.First.{IsFirstFrom}
use Rattle.key_maps.proofs.KeyRows.{id_from_found}

pub exact_names : CmpEqualImpliesEq name_cmp
exact_names = exact_pairs owner_cmp padded_cmp (exact_pairs nat_cmp nat_cmp exact_unsigned exact_unsigned) (exact_pairs _ nat_cmp exact_bytes exact_unsigned)

equal_is : (o : Ordering) → is_eq o ≡ true → o ≡ Equal
equal_is Less e = absurd cc
equal_is Equal e = refl
equal_is Greater e = absurd cc

-- a key stands at its own name alone
pub name_is : (name : Name) (key : KeyRecord) → is_at_name name key ≡ true → name ≡ key_name key
name_is name key e = exact_names name (key_name key) (equal_is (name_cmp name (key_name key)) e)

-- a number that is found by a name is that of a key of this name
pub found_key : (id : ℕ) (found : Option KeyRecord) → option_map id_of found ≡ Some id → (key : KeyRecord) × (found ≡ Some key) × (key.id ≡ id)
found_key id None e = absurd (none-some id e)
found_key id (Some key) e = (key, refl, same_Some key.id id e)

pub key_of_name : (maps : Inside) (name : Name) (id : ℕ) → IsIndexed maps → get name_cmp maps.by_name name ≡ Some id → find (has_id id) (values maps.by_id) ≡ find (is_at_name name) (values maps.by_id)
key_of_name maps name id s e =
    let found = found_key id (find (is_at_name name) (values maps.by_id)) (sym (s.named name) ∙ e) in
    ap (λ n. find (has_id n) (values maps.by_id)) (sym found.2) ∙ id_from_found (is_at_name name) (values maps.by_id) found.0 s.orderly found.1 ∙ sym found.1

pub no_key_of_name : (found : Option KeyRecord) → option_map id_of found ≡ None → found ≡ None
no_key_of_name None e = refl
no_key_of_name (Some key) e = absurd (none-some key.id (sym e))

abbrev pub IsFrom : Inside → Bound Name → List (Name × ℕ) → Type 0
IsFrom maps start entries = IsRangeOf name_cmp start Unbounded maps.by_name entries

is_some_of : (found : Option KeyRecord) (ids : Option ℕ) → ids ≡ option_map id_of found → IsSome found → IsSome ids
is_some_of None ids e some = absurd cc
is_some_of (Some key) ids e some = rw e refl

pub first_found : (maps : Inside) (start : Bound Name) (name : Name) (id : ℕ) (rest : List (Name × ℕ)) → IsIndexed maps → IsFrom maps start ((name, id) ∷ rest) → IsFirstFrom (values maps.by_id) start (find (has_id id) (values maps.by_id))
first_found maps start name id rest s r =
    let rows = values maps.by_id in
    let found = found_key id (find (is_at_name name) rows) (sym (s.named name) ∙ r.1.1) in
    let same : name ≡ key_name found.0 = name_is name found.0 (found_passes (is_at_name name) rows found.0 found.1) in
    subst (IsFirstFrom rows start) (sym (key_of_name maps name id s r.1.1 ∙ found.1)) (record {
      held = subst (λ n. find (is_at_name n) rows ≡ Some found.0) same found.1;
      from = subst (IsFromStart name_cmp start) same r.1.0.0;
      least = λ other from some. subst (λ n. is_gt (name_cmp n other) ≡ false) same (r.2 other (from, tt) (is_some_of (find (is_at_name other) rows) (get name_cmp maps.by_name other) (s.named other) some));
    })

pub none_found : (maps : Inside) (start : Bound Name) → IsIndexed maps → IsFrom maps start [] → IsFirstFrom (values maps.by_id) start None
none_found maps start s r = λ name from. no_key_of_name (find (is_at_name name) (values maps.by_id)) (sym (s.named name) ∙ r.5 refl name (from, tt))
