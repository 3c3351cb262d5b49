-- What records leave is what a store can hold: each change and each row keeps it so.
use Rattle.std.proofs.Common.{◌≡◌, ℕ, zero, suc, ◌+◌, ◌-◌, ◌<◌, ◌≤◌, ◌^◌, Bool, true, false, not, ◌==◌, ◌&&◌, ◌||◌, if◌then◌else◌, List, [], ◌∷◌, ◌++◌, length, Option, Some, None, refl, sym, ap, ◌∙◌, subst, arith, inl, inr}
use Rattle.std.specs.Prelude.{map, find, nat_lt, nat_le}
use Rattle.std.specs.List.{AllByRecursion, filter, list_all, list_any}
use Rattle.std.proofs.lemmas.Bool.{and_parts, eqb-true, leb-true, ltb-true, not-true, or_cases}
use Rattle.tags.specs.Descriptor.{is_alias}
use Rattle.tags.specs.declared.limits.TheConstants.{BLOB_BYTES, KEPT_LIST_BYTES, MOST_GRANTS, MOST_KEYS, NUMBERS_END}
use Rattle.grants.specs.declared.row.GrantRow.{GrantRow}
use Rattle.grants.specs.Rows.{IsBefore, is_for, is_numbered, with_bits}
use Rattle.grants.proofs.Finding.{all_from_none, all_filter, all_more, all_push, keeps_all}
use Rattle.grants.proofs.Ordered.{table_bits, table_filter, table_more}
use Rattle.byte_strings.proofs.Fields.{bind_some}
use Rattle.journal_records.specs.declared.change.Change.{Change}
use Rattle.journal_records.specs.declared.change.Change.TheVariants.{Create, Delete, Use, Grant, Ungrant, Clear, Removed, Upgrade}
use Rattle.journal_records.specs.declared.record.KeyRecord.{KeyRecord}
use Rattle.journal_records.specs.declared.record.Record.{Record}
use Rattle.journal_records.specs.declared.record.Record.TheVariants as records
use Rattle.journal_records.specs.LastingPart.{Lasting, empty_lasting, has_id, is_named, is_of_user, is_owned, some_has_id, without_keys}
use Rattle.journal_records.specs.Needs.{has_place_for, is_grant_numbered, is_met, is_number_left, is_owner}
use Rattle.journal_records.specs.Effects.{after, granted, is_last_use, upgraded, used, with_blob, with_key, with_use}
use Rattle.journal_records.specs.Spelling.{AreFields, IsRecord}
use Rattle.journal_records.specs.States.{AtStart, ReadState, after_in, has_uses_within, is_at_start, is_given, is_next_number, making, may_hold, may_hold_grant, met_in, state_of, stepped, takes_rows}
use Rattle.journal_records.specs.Storable.{IsKeyBefore, IsStorable, IsStorableGrant, IsStorableKey, area_kinds}
use Rattle.journal_records.proofs.KeyLists.{KeepsNames, blob_names, keys_filter, keys_more, keys_named, live_left, live_more, live_named, other_name, other_pair, use_names}
use Rattle.journal_records.proofs.Lists.{all_from_test, all_map, all_passing, as_many, both_all, fewer_pass, none_from_test, one_longer}

-- ---- keys that end

storable_without : (ends : KeyRecord → Bool) (part : Lasting) → IsStorable part → IsStorable (without_keys ends part)
storable_without ends part is = record {
  keys = all_filter (IsStorableKey part.next_key) (λ key. not (ends key)) part.keys is.keys;
  keys_differ = keys_filter (λ key. not (ends key)) part.keys is.keys_differ;
  key_count = omega (arith, fewer_pass (λ key. not (ends key)) part.keys, is.key_count);
  grants = all_passing (IsStorableGrant part.next_grant part.keys) (IsStorableGrant part.next_grant (filter (λ key. not (ends key)) part.keys))
      (λ (row : GrantRow). not (some_has_id row.key (filter ends part.keys)))
      (λ row old stays. record {
        numbered = old.numbered;
        live = live_left row.key ends part.keys old.live (not-true (some_has_id row.key (filter ends part.keys)) stays);
        fields = old.fields;
      })
      part.grants is.grants;
  grants_differ = table_filter (λ (row : GrantRow). not (some_has_id row.key (filter ends part.keys))) part.grants is.grants_differ;
  grant_count = omega (arith, fewer_pass (λ (row : GrantRow). not (some_has_id row.key (filter ends part.keys))) part.grants, is.grant_count);
  next_key = is.next_key;
  next_grant = is.next_grant;
}

-- ---- a key behind the others

later_next : (next more : ℕ) (key : KeyRecord) → next ≤ more → IsStorableKey next key → IsStorableKey more key
later_next next more key less is = record {
  numbered = (is.numbered.0, omega (arith, is.numbered.1, less));
  owner = is.owner;
  nspace = is.nspace;
  alias = is.alias;
  blob = is.blob;
  list = is.list;
  limit = is.limit;
  uses = is.uses;
}

grant_live : (next : ℕ) (keys more : List KeyRecord) (row : GrantRow) → (some_has_id row.key keys ≡ true → some_has_id row.key more ≡ true) → IsStorableGrant next keys row → IsStorableGrant next more row
grant_live next keys more row stays is = record { numbered = is.numbered; live = stays is.live; fields = is.fields }

key_behind : (part : Lasting) (key : KeyRecord) (next : ℕ) → IsStorable part → part.next_key ≤ next → next ≤ NUMBERS_END → IsStorableKey next key
    → AllByRecursion (λ held. IsKeyBefore held key) part.keys → length part.keys < MOST_KEYS → IsStorable (record part { keys = part.keys ++ key ∷ []; next_key = next })
key_behind part key next is less end one before place = record {
  keys = all_push (IsStorableKey next) part.keys key (all_more (IsStorableKey part.next_key) (IsStorableKey next) (λ held old. later_next part.next_key next held less old) part.keys is.keys) one;
  keys_differ = keys_more part.keys key is.keys_differ before;
  key_count = omega (arith, one_longer part.keys key, place);
  grants = all_more (IsStorableGrant part.next_grant part.keys) (IsStorableGrant part.next_grant (part.keys ++ key ∷ []))
      (λ row old. grant_live part.next_grant part.keys (part.keys ++ key ∷ []) row (live_more row.key part.keys key) old) part.grants is.grants;
  grants_differ = is.grants_differ;
  grant_count = is.grant_count;
  next_key = (omega (arith, is.next_key.0, less), end);
  next_grant = is.next_grant;
}

-- ---- a grant behind the others

later_grant : (next more : ℕ) (keys : List KeyRecord) (row : GrantRow) → next ≤ more → IsStorableGrant next keys row → IsStorableGrant more keys row
later_grant next more keys row less is = record { numbered = (is.numbered.0, omega (arith, is.numbered.1, less)); live = is.live; fields = is.fields }

grant_behind : (part : Lasting) (row : GrantRow) (next : ℕ) → IsStorable part → part.next_grant ≤ next → next ≤ NUMBERS_END → IsStorableGrant next part.keys row
    → AllByRecursion (λ held. IsBefore held row) part.grants → length part.grants < MOST_GRANTS → IsStorable (record part { grants = part.grants ++ row ∷ []; next_grant = next })
grant_behind part row next is less end one before place = record {
  keys = is.keys;
  keys_differ = is.keys_differ;
  key_count = is.key_count;
  grants = all_push (IsStorableGrant next part.keys) part.grants row
      (all_more (IsStorableGrant part.next_grant part.keys) (IsStorableGrant next part.keys) (λ held old. later_grant part.next_grant next part.keys held less old) part.grants is.grants) one;
  grants_differ = table_more part.grants row is.grants_differ before;
  grant_count = omega (arith, one_longer part.grants row, place);
  next_key = is.next_key;
  next_grant = (omega (arith, is.next_grant.0, less), end);
}

-- ---- each change

-- what the need of a new key says
record IsMade (part : Lasting) (key : KeyRecord) : Type 0 where
  number : key.id ≡ part.next_key
  left : key.id < NUMBERS_END
  owner : is_owner key.domain key.nspace ≡ true
  alias : is_alias key.alias ≡ true
  blob : length key.blob ≤ BLOB_BYTES
  list : length key.list ≤ KEPT_LIST_BYTES
  place : length (without_keys (is_named key.domain key.nspace key.alias) part).keys < MOST_KEYS

made_parts : (part : Lasting) (key : KeyRecord) → is_met part (making key) ≡ true → IsMade part key
made_parts part key met =
    let named : Bool = has_place_for key.domain key.nspace key.alias part in
    let a = and_parts ((key.id == part.next_key) && is_number_left key.id)
    (is_owner key.domain key.nspace && (is_alias key.alias && (nat_le (length key.blob) BLOB_BYTES && (nat_le (length key.list) KEPT_LIST_BYTES && named)))) met in
    let b = and_parts (key.id == part.next_key) (is_number_left key.id) a.0 in
    let c = and_parts (is_owner key.domain key.nspace) (is_alias key.alias && (nat_le (length key.blob) BLOB_BYTES && (nat_le (length key.list) KEPT_LIST_BYTES && named))) a.1 in
    let d = and_parts (is_alias key.alias) (nat_le (length key.blob) BLOB_BYTES && (nat_le (length key.list) KEPT_LIST_BYTES && named)) c.1 in
    let e = and_parts (nat_le (length key.blob) BLOB_BYTES) (nat_le (length key.list) KEPT_LIST_BYTES && named) d.1 in
    let f = and_parts (nat_le (length key.list) KEPT_LIST_BYTES) named e.1 in
    record {
      number = eqb-true key.id part.next_key b.0;
      left = ltb-true key.id NUMBERS_END b.1;
      owner = c.0;
      alias = d.0;
      blob = leb-true (length key.blob) BLOB_BYTES e.0;
      list = leb-true (length key.list) KEPT_LIST_BYTES f.0;
      place = ltb-true (length (without_keys (is_named key.domain key.nspace key.alias) part).keys) MOST_KEYS f.1;
    }

storable_made : (part : Lasting) (key : KeyRecord) → key.left ≡ key.limit → key.nspace < 2 ^ 64 → key.limit < 2 ^ 32 → is_met part (making key) ≡ true → IsStorable part → IsStorable (with_key key part)
storable_made part key full wide narrow met is =
    let made = made_parts part key met in
    let named = is_named key.domain key.nspace key.alias in
    key_behind (without_keys named part) key (key.id + 1) (storable_without named part is) (omega (arith, made.number)) (omega (arith, made.left))
    (record {
      numbered = (omega (arith, made.number, is.next_key.0), omega arith);
      owner = made.owner;
      nspace = wide;
      alias = made.alias;
      blob = made.blob;
      list = made.list;
      limit = narrow;
      uses = (omega (arith, full), λ some. omega (arith, full, some));
    })
    (all_passing (IsStorableKey part.next_key) (λ held. IsKeyBefore held key) (λ held. not (named held))
    (λ held old stays. (omega (arith, old.numbered.1, made.number), other_name key held (not-true (named held) stays))) part.keys is.keys)
    made.place

two_left : (left : ℕ) → not (left == 1) ≡ true → 1 ≤ left → 1 ≤ left - 1
two_left zero e some = omega (arith, some)
two_left (suc zero) e some = absurd (cc)
two_left (suc (suc left)) e some = omega arith

used_key : (next id : ℕ) (key : KeyRecord) → IsStorableKey next key → not (is_last_use id key) ≡ true → IsStorableKey next (with_use id key)
used_key next id key is stays = by_number (has_id id key) stays where
  by_number : (b : Bool) → not (b && (key.left == 1)) ≡ true → IsStorableKey next (if b then record key { left = key.left - 1 } else key)
  by_number true more = record {
    numbered = is.numbered;
    owner = is.owner;
    nspace = is.nspace;
    alias = is.alias;
    blob = is.blob;
    list = is.list;
    limit = is.limit;
    uses = (omega (arith, is.uses.0), λ some. two_left key.left more (is.uses.1 some));
  }
  by_number false more = is

-- keys that change in place, each keeping its number and its name
storable_named : (f : KeyRecord → KeyRecord) → KeepsNames f → (part : Lasting) → IsStorable part → AllByRecursion (IsStorableKey part.next_key) (map f part.keys)
    → IsStorable (record part { keys = map f part.keys })
storable_named f same part is each = record {
  keys = each;
  keys_differ = keys_named f same part.keys is.keys_differ;
  key_count = omega (arith, as_many f part.keys, is.key_count);
  grants = all_more (IsStorableGrant part.next_grant part.keys) (IsStorableGrant part.next_grant (map f part.keys))
      (λ row old. grant_live part.next_grant part.keys (map f part.keys) row (λ live. live_named f same row.key part.keys ∙ live) old) part.grants is.grants;
  grants_differ = is.grants_differ;
  grant_count = is.grant_count;
  next_key = is.next_key;
  next_grant = is.next_grant;
}

storable_used : (id : ℕ) (part : Lasting) → IsStorable part → IsStorable (used id part)
storable_used id part is =
    let rest = without_keys (is_last_use id) part in
    storable_named (with_use id) (use_names id) rest (storable_without (is_last_use id) part is)
    (all_map (λ key. IsStorableKey part.next_key key × (not (is_last_use id key) ≡ true)) (IsStorableKey part.next_key) (with_use id) (λ key both. used_key part.next_key id key both.0 both.1) rest.keys
    (all_passing (IsStorableKey part.next_key) (λ key. IsStorableKey part.next_key key × (not (is_last_use id key) ≡ true)) (λ key. not (is_last_use id key)) (λ key old stays. (old, stays)) part.keys is.keys))

upgraded_key : (next id : ℕ) (blob list : List ℕ) → length blob ≤ BLOB_BYTES → length list ≤ KEPT_LIST_BYTES → (key : KeyRecord) → IsStorableKey next key → IsStorableKey next (with_blob id blob list key)
upgraded_key next id blob list small short key is = by_number (has_id id key) where
  by_number : (b : Bool) → IsStorableKey next (if b then record key { blob = blob; list = list } else key)
  by_number true = record {
    numbered = is.numbered;
    owner = is.owner;
    nspace = is.nspace;
    alias = is.alias;
    blob = small;
    list = short;
    limit = is.limit;
    uses = is.uses;
  }
  by_number false = is

storable_upgraded : (id : ℕ) (blob list : List ℕ) (part : Lasting) → is_met part (Upgrade id blob list) ≡ true → IsStorable part → IsStorable (upgraded id blob list part)
storable_upgraded id blob list part met is =
    let small = nat_le (length blob) BLOB_BYTES in
    let short = nat_le (length list) KEPT_LIST_BYTES in
    let sizes = and_parts small short (and_parts (some_has_id id part.keys) (small && short) met).1 in
    storable_named (with_blob id blob list) (blob_names id blob list) part is
    (all_map (IsStorableKey part.next_key) (IsStorableKey part.next_key) (with_blob id blob list)
    (upgraded_key part.next_key id blob list (leb-true (length blob) BLOB_BYTES sizes.0) (leb-true (length list) KEPT_LIST_BYTES sizes.1)) part.keys is.keys)

rebit : (key uid bits next : ℕ) (keys : List KeyRecord) (row : GrantRow) → bits < 2 ^ 32 → IsStorableGrant next keys row → IsStorableGrant next keys (with_bits key uid bits row)
rebit key uid bits next keys row small is = by_pair (is_for key uid row) where
  by_pair : (b : Bool) → IsStorableGrant next keys (if b then record row { bits = bits } else row)
  by_pair true = record { numbered = is.numbered; live = is.live; fields = (is.fields.0, is.fields.1, small) }
  by_pair false = is

-- those before a new grant
before_new : (next : ℕ) (keys : List KeyRecord) (row : GrantRow) (rows : List GrantRow) → next ≤ row.grant → AllByRecursion (IsStorableGrant next keys) rows
    → AllByRecursion (λ held. is_for row.key row.uid held ≡ false) rows → AllByRecursion (λ held. IsBefore held row) rows
before_new next keys row rows less is none =
    all_more (λ held. IsStorableGrant next keys held × (is_for row.key row.uid held ≡ false)) (λ held. IsBefore held row)
    (λ held both. (omega (arith, both.0.numbered.1, less), other_pair row held both.1)) rows
    (both_all (IsStorableGrant next keys) (λ held. is_for row.key row.uid held ≡ false) rows is none)

storable_granted : (part : Lasting) (row : GrantRow) → AreFields (Grant row) → is_met part (Grant row) ≡ true → IsStorable part → IsStorable (after part (Grant row))
storable_granted part row fits met is = by_found (find (is_for row.key row.uid) part.grants) refl (and_parts (some_has_id row.key part.keys) (is_grant_numbered (find (is_for row.key row.uid) part.grants) row part) met).1 where
  live : some_has_id row.key part.keys ≡ true
  live = (and_parts (some_has_id row.key part.keys) (is_grant_numbered (find (is_for row.key row.uid) part.grants) row part) met).0

  by_found : (found : Option GrantRow) → find (is_for row.key row.uid) part.grants ≡ found → is_grant_numbered found row part ≡ true → IsStorable (granted found row part)
  by_found (Some held) e numbered = record {
    keys = is.keys;
    keys_differ = is.keys_differ;
    key_count = is.key_count;
    grants = all_map (IsStorableGrant part.next_grant part.keys) (IsStorableGrant part.next_grant part.keys) (with_bits row.key row.uid row.bits)
        (λ old stood. rebit row.key row.uid row.bits part.next_grant part.keys old fits.3 stood) part.grants is.grants;
    grants_differ = table_bits row.key row.uid row.bits part.grants is.grants_differ;
    grant_count = omega (arith, as_many (with_bits row.key row.uid row.bits) part.grants, is.grant_count);
    next_key = is.next_key;
    next_grant = is.next_grant;
  }
  by_found None e numbered =
      let a = and_parts (row.grant == part.next_grant) (is_number_left row.grant && nat_lt (length part.grants) MOST_GRANTS) numbered in
      let b = and_parts (is_number_left row.grant) (nat_lt (length part.grants) MOST_GRANTS) a.1 in
      let same : row.grant ≡ part.next_grant = eqb-true row.grant part.next_grant a.0 in
      let below : row.grant < NUMBERS_END = ltb-true row.grant NUMBERS_END b.0 in
      grant_behind part row (row.grant + 1) is (omega (arith, same)) (omega (arith, below))
      (record { numbered = (omega (arith, same, is.next_grant.0), omega arith); live = live; fields = (fits.1, fits.2, fits.3) })
      (before_new part.next_grant part.keys row part.grants (omega (arith, same)) is.grants (all_from_none (is_for row.key row.uid) part.grants e))
      (ltb-true (length part.grants) MOST_GRANTS b.1)

storable_ungranted : (number : ℕ) (part : Lasting) → IsStorable part → IsStorable (after part (Ungrant number))
storable_ungranted number part is = record {
  keys = is.keys;
  keys_differ = is.keys_differ;
  key_count = is.key_count;
  grants = all_filter (IsStorableGrant part.next_grant part.keys) (λ row. not (is_numbered number row)) part.grants is.grants;
  grants_differ = table_filter (λ row. not (is_numbered number row)) part.grants is.grants_differ;
  grant_count = omega (arith, fewer_pass (λ row. not (is_numbered number row)) part.grants, is.grant_count);
  next_key = is.next_key;
  next_grant = is.next_grant;
}

pub storable_after : (part : Lasting) (change : Change) → AreFields change → is_met part change ≡ true → IsStorable part → IsStorable (after part change)
storable_after part (Create id domain nspace alias blob list limit) fits met is =
    storable_made part (record { id = id; domain = domain; nspace = nspace; alias = alias; blob = blob; list = list; limit = limit; left = limit }) refl fits.2 fits.6 met is
storable_after part (Delete id) fits met is = storable_without (has_id id) part is
storable_after part (Use id) fits met is = storable_used id part is
storable_after part (Grant row) fits met is = storable_granted part row fits met is
storable_after part (Ungrant grant) fits met is = storable_ungranted grant part is
storable_after part (Clear domain nspace) fits met is = storable_without (is_owned domain nspace) part is
storable_after part (Removed user) fits met is = storable_without (is_of_user user) part is
storable_after part (Upgrade id blob list) fits met is = storable_upgraded id blob list part met is

-- ---- each row

next_number : (number : ℕ) → is_next_number number ≡ true → (1 ≤ number) × (number ≤ NUMBERS_END)
next_number number e =
    let both = and_parts (nat_le 1 number) (nat_le number NUMBERS_END) e in
    (leb-true 1 number both.0, leb-true number NUMBERS_END both.1)

given_number : (number next : ℕ) → is_given number next ≡ true → (1 ≤ number) × (number < next)
given_number number next e =
    let both = and_parts (nat_le 1 number) (nat_lt number next) e in
    (leb-true 1 number both.0, ltb-true number next both.1)

storable_next : (part : Lasting) (key grant : ℕ) → part ≡ empty_lasting → is_next_number key ≡ true → is_next_number grant ≡ true → IsStorable (record part { next_key = key; next_grant = grant })
storable_next part key grant none some more = subst (λ (p : Lasting). IsStorable (record p { next_key = key; next_grant = grant })) (sym none) (record {
  keys = tt;
  keys_differ = tt;
  key_count = omega arith;
  grants = tt;
  grants_differ = tt;
  grant_count = omega arith;
  next_key = next_number key some;
  next_grant = next_number grant more;
})

some_left : (limit left : ℕ) → has_uses_within limit left ≡ true → (left ≤ limit) × (1 ≤ limit → 1 ≤ left)
some_left limit left e =
    let both = and_parts (nat_le left limit) ((limit == 0) || nat_le 1 left) e in (
      leb-true left limit both.0,
      λ limited. elim (or_cases (limit == 0) (nat_le 1 left) both.1) [
        | inl none ↦ absurd (omega (arith, eqb-true limit 0 none, limited))
        | inr some ↦ leb-true 1 left some
      ],
    )

storable_held : (part : Lasting) (key : KeyRecord) → key.nspace < 2 ^ 64 → key.limit < 2 ^ 32 → may_hold part key ≡ true → IsStorable part → IsStorable (record part { keys = part.keys ++ key ∷ [] })
storable_held part key wide narrow may is =
    let named = is_named key.domain key.nspace key.alias in
    let behind = list_all (λ (held : KeyRecord). nat_lt held.id key.id) part.keys in
    let free = not (list_any named part.keys) in
    let uses = has_uses_within key.limit key.left in
    let met = is_met (record part { next_key = key.id }) (making key) in
    let a = and_parts (is_given key.id part.next_key) (behind && (free && (uses && met))) may in
    let b = and_parts behind (free && (uses && met)) a.1 in
    let c = and_parts free (uses && met) b.1 in
    let d = and_parts uses met c.1 in
    let made = made_parts (record part { next_key = key.id }) key d.1 in
    let others = none_from_test named part.keys (not-true (list_any named part.keys) c.0) in
    let all : filter (λ held. not (named held)) part.keys ≡ part.keys = keeps_all (λ held. not (named held)) part.keys
    (all_more (λ held. named held ≡ false) (λ held. not (named held) ≡ true) (λ held other. ap not other) part.keys others) in
    key_behind part key part.next_key is (omega arith) is.next_key.1
    (record {
      numbered = given_number key.id part.next_key a.0;
      owner = made.owner;
      nspace = wide;
      alias = made.alias;
      blob = made.blob;
      list = made.list;
      limit = narrow;
      uses = some_left key.limit key.left d.0;
    })
    (all_more (λ held. (nat_lt held.id key.id ≡ true) × (named held ≡ false)) (λ held. IsKeyBefore held key) (λ held both. (ltb-true held.id key.id both.0, other_name key held both.1)) part.keys
    (both_all (λ (held : KeyRecord). nat_lt held.id key.id ≡ true) (λ held. named held ≡ false) part.keys (all_from_test (λ (held : KeyRecord). nat_lt held.id key.id) part.keys b.0) others))
    (omega (arith, made.place, ap length all))

storable_held_grant : (part : Lasting) (row : GrantRow) → (row.key < 2 ^ 64) × (row.uid < 2 ^ 32) × (row.bits < 2 ^ 32) → may_hold_grant part row ≡ true → IsStorable part
    → IsStorable (record part { grants = part.grants ++ row ∷ [] })
storable_held_grant part row fits may is =
    let behind = list_all (λ (held : GrantRow). nat_lt held.grant row.grant) part.grants in
    let live = some_has_id row.key part.keys in
    let free = not (list_any (is_for row.key row.uid) part.grants) in
    let place = nat_lt (length part.grants) MOST_GRANTS in
    let a = and_parts (is_given row.grant part.next_grant) (behind && (live && (free && place))) may in
    let b = and_parts behind (live && (free && place)) a.1 in
    let c = and_parts live (free && place) b.1 in
    let d = and_parts free place c.1 in
    let others = none_from_test (is_for row.key row.uid) part.grants (not-true (list_any (is_for row.key row.uid) part.grants) d.0) in
    grant_behind part row part.next_grant is (omega arith) is.next_grant.1
    (record { numbered = given_number row.grant part.next_grant a.0; live = c.0; fields = fits })
    (all_more (λ held. (nat_lt held.grant row.grant ≡ true) × (is_for row.key row.uid held ≡ false)) (λ held. IsBefore held row) (λ held both. (ltb-true held.grant row.grant both.0, other_pair row held both.1)) part.grants
    (both_all (λ (held : GrantRow). nat_lt held.grant row.grant ≡ true) (λ held. is_for row.key row.uid held ≡ false) part.grants (all_from_test (λ (held : GrantRow). nat_lt held.grant row.grant) part.grants b.0) others))
    (ltb-true (length part.grants) MOST_GRANTS d.1)

-- ---- records one behind the other

-- what is left can be held, and before the first record it is nothing
record IsLeft (state : ReadState) : Type 0 where
  storable : IsStorable state.part
  nothing : is_at_start state.phase ≡ true → state.part ≡ empty_lasting

left_after : (state : ReadState) (it : Record) → IsRecord area_kinds it → met_in state it ≡ true → IsLeft state → IsLeft (after_in state it)
left_after state (records.Change change) fits met is = record { storable = storable_after state.part change fits.0 met is.storable; nothing = λ begins. absurd (cc) }
left_after state (records.Next key grant) fits met is =
    let a = and_parts (is_at_start state.phase) (is_next_number key && is_next_number grant) met in
    let b = and_parts (is_next_number key) (is_next_number grant) a.1 in
    record { storable = storable_next state.part key grant (is.nothing a.0) b.0 b.1; nothing = λ begins. absurd (cc) }
left_after state (records.Held key) fits met is = record {
  storable = storable_held state.part key fits.0.2 fits.0.6 (and_parts (takes_rows state.phase) (may_hold state.part key) met).1 is.storable;
  nothing = λ begins. absurd (cc);
}
left_after state (records.HeldGrant row) fits met is = record {
  storable = storable_held_grant state.part row (fits.0.1, fits.0.2, fits.0.3) (and_parts (takes_rows state.phase) (may_hold_grant state.part row) met).1 is.storable;
  nothing = λ begins. absurd (cc);
}

left_one : (state later : ReadState) (it : Record) → IsRecord area_kinds it → stepped state it ≡ Some later → IsLeft state → IsLeft later
left_one state later it fits e is = by_need (met_in state it) refl e where
  by_need : (b : Bool) → met_in state it ≡ b → (if b then Some (after_in state it) else None) ≡ Some later → IsLeft later
  by_need true met made = let same : after_in state it ≡ later = cc in subst IsLeft same (left_after state it fits met is)
  by_need false met none = absurd (cc)

left_by : (past : List Record) (state : ReadState) → AllByRecursion (IsRecord area_kinds) past → state_of past ≡ Some state → IsLeft state
left_by [] state fits e =
    let same : ◌≡◌ {A = ReadState} (record { part = empty_lasting; phase = AtStart }) state = cc in
    subst IsLeft same (record {
      storable = record {
        keys = tt;
        keys_differ = tt;
        key_count = omega arith;
        grants = tt;
        grants_differ = tt;
        grant_count = omega arith;
        next_key = (omega arith, omega arith);
        next_grant = (omega arith, omega arith);
      };
      nothing = λ begins. refl;
    })
left_by (it ∷ past) state fits e =
    let b = bind_some (λ (before : ReadState). stepped before it) (state_of past) state e in
    left_one b.0 state it fits.0 b.2 (left_by past b.0 fits.1 b.1)

pub leaves_storable : (past : List Record) (state : ReadState) → AllByRecursion (IsRecord area_kinds) past → state_of past ≡ Some state → IsStorable state.part
leaves_storable past state fits e = (left_by past state fits e).storable
