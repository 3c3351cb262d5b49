-- The snapshot of what a store can hold leaves just that again, with its need met at each record.
use Rattle.std.proofs.Common.{◌≡◌, ℕ, ◌<◌, ◌≤◌, true, false, not, ◌==◌, ◌&&◌, ◌||◌, List, [], ◌∷◌, ◌++◌, length, length-append, Option, Some, refl, sym, ap, ◌∙◌, subst, arith, inl, inr, append_assoc}
use Rattle.std.specs.Prelude.{map, reverse, nat_lt, nat_le}
use Rattle.std.specs.List.{AllByRecursion, list_all, list_any}
use Rattle.std.specs.Option.{option_and_then}
use Rattle.std.proofs.lemmas.Bool.{and_from, cases_lt, eq-eqb, le-leb, lt-ltb, not_from_false, or_left, or_right}
use Rattle.std.proofs.lemmas.List.{append-nil}
use Rattle.tags.specs.Descriptor.{is_alias}
use Rattle.tags.specs.declared.limits.TheConstants.{BLOB_BYTES, KEPT_LIST_BYTES, MOST_GRANTS, MOST_KEYS, NUMBERS_END}
use Rattle.grants.specs.declared.row.GrantRow.{GrantRow}
use Rattle.grants.specs.Rows.{IsBefore, IsTable, is_for}
use Rattle.grants.proofs.Finding.{all_more}
use Rattle.byte_strings.proofs.Fields.{bind_some}
use Rattle.journal_records.specs.declared.record.KeyRecord.{KeyRecord}
use Rattle.journal_records.specs.declared.record.Record.{Record}
use Rattle.journal_records.specs.declared.record.Record.TheVariants as records
use Rattle.journal_records.specs.LastingPart.{Lasting, empty_lasting, is_named, some_has_id, without_keys}
use Rattle.journal_records.specs.Needs.{has_place_for, is_met, is_number_left, is_owner}
use Rattle.journal_records.specs.States.{AmongRows, AtStart, ReadState, after_in, has_uses_within, is_given, is_next_number, making, may_hold, may_hold_grant, met_in, state_of, stepped}
use Rattle.journal_records.specs.Storable.{AreKeys, IsKeyBefore, IsStorable, IsStorableGrant, IsStorableKey, held_grant, held_key, snapshot}
use Rattle.journal_records.proofs.KeyLists.{keys_before, other_name, other_pair}
use Rattle.journal_records.proofs.Lists.{all_mid, fewer_pass, last_is, test_from_all, test_from_none}

-- ---- records from the oldest on

-- what records leave behind a state, the oldest first
abbrev onward : ReadState → List Record → Option ReadState
onward state [] = Some state
onward state (it ∷ later) = option_and_then (λ next. onward next later) (stepped state it)

stepped_is : (state : ReadState) (it : Record) → met_in state it ≡ true → stepped state it ≡ Some (after_in state it)
stepped_is state it met = rw met refl

onward_from : (later past : List Record) (state end : ReadState) → state_of past ≡ Some state → onward state later ≡ Some end → state_of (reverse later ++ past) ≡ Some end
onward_from [] past state end before is = before ∙ is
onward_from (it ∷ later) past state end before is =
    let b = bind_some (λ (next : ReadState). onward next later) (stepped state it) end is in
    let one : state_of (it ∷ past) ≡ Some b.0 = ap (option_and_then (λ (s : ReadState). stepped s it)) before ∙ b.1 in
    ap state_of (ap (λ (l : List Record). l ++ past) (last_is it later) ∙ append_assoc (reverse later) (it ∷ []) past) ∙ onward_from later (it ∷ past) b.0 end one b.2

onward_on : (first second : List Record) (state mid : ReadState) → onward state first ≡ Some mid → onward state (first ++ second) ≡ onward mid second
onward_on [] second state mid is = let same : state ≡ mid = cc in ap (λ (s : ReadState). onward s second) same
onward_on (it ∷ first) second state mid is =
    let b = bind_some (λ (next : ReadState). onward next first) (stepped state it) mid is in
    ap (option_and_then (λ (next : ReadState). onward next (first ++ second))) b.1 ∙ onward_on first second b.0 mid b.2

-- ---- keys

-- rows of these keys and grants, with the next numbers of the part
abbrev rows_of : Lasting → List KeyRecord → List GrantRow → ReadState
rows_of part keys grants = record { part = record { keys = keys; grants = grants; next_key = part.next_key; next_grant = part.next_grant }; phase = AmongRows }

given_is : (number next : ℕ) → 1 ≤ number → number < next → is_given number next ≡ true
given_is number next some below = and_from (nat_le 1 number) (nat_lt number next) (le-leb 1 number some) (lt-ltb number next below)

uses_are : (limit left : ℕ) → left ≤ limit → (1 ≤ limit → 1 ≤ left) → has_uses_within limit left ≡ true
uses_are limit left within some = and_from (nat_le left limit) ((limit == 0) || nat_le 1 left) (le-leb left limit within) (elim (cases_lt 0 limit) [
  | inl limited ↦ or_right (limit == 0) (nat_le 1 left) (le-leb 1 left (some (omega (arith, limited))))
  | inr none ↦ or_left (limit == 0) (nat_le 1 left) (eq-eqb limit 0 (omega (arith, none)))
])

holds_key : (part : Lasting) (done : List KeyRecord) (grants : List GrantRow) (key : KeyRecord) → IsStorableKey part.next_key key → part.next_key ≤ NUMBERS_END
    → AllByRecursion (λ held. IsKeyBefore held key) done → length done < MOST_KEYS → may_hold (rows_of part done grants).part key ≡ true
holds_key part done grants key is end before place =
    let named = is_named key.domain key.nspace key.alias in
    let now = (rows_of part done grants).part in
    let as_next : Lasting = record now { next_key = key.id } in
    let behind = list_all (λ (held : KeyRecord). nat_lt held.id key.id) done in
    let free = not (list_any named done) in
    let uses = has_uses_within key.limit key.left in
    let room = has_place_for key.domain key.nspace key.alias as_next in
    let small = nat_le (length key.blob) BLOB_BYTES in
    let short = nat_le (length key.list) KEPT_LIST_BYTES in
    let made : is_met as_next (making key) ≡ true =
    and_from ((key.id == key.id) && is_number_left key.id) (is_owner key.domain key.nspace && (is_alias key.alias && (small && (short && room))))
    (and_from (key.id == key.id) (is_number_left key.id) (eq-eqb key.id key.id refl) (lt-ltb key.id NUMBERS_END (omega (arith, is.numbered.1, end))))
    (and_from (is_owner key.domain key.nspace) (is_alias key.alias && (small && (short && room))) is.owner
    (and_from (is_alias key.alias) (small && (short && room)) is.alias
    (and_from small (short && room) (le-leb (length key.blob) BLOB_BYTES is.blob)
    (and_from short room (le-leb (length key.list) KEPT_LIST_BYTES is.list)
    (lt-ltb (length (without_keys named as_next).keys) MOST_KEYS (omega (arith, fewer_pass (λ held. not (named held)) done, place))))))) in
    and_from (is_given key.id part.next_key) (behind && (free && (uses && is_met as_next (making key)))) (given_is key.id part.next_key is.numbered.0 is.numbered.1)
    (and_from behind (free && (uses && is_met as_next (making key)))
    (test_from_all (λ (held : KeyRecord). nat_lt held.id key.id) done (all_more (λ held. IsKeyBefore held key) (λ held. nat_lt held.id key.id ≡ true) (λ held one. lt-ltb held.id key.id one.0) done before))
    (and_from free (uses && is_met as_next (making key))
    (not_from_false (list_any named done) (test_from_none named done (all_more (λ held. IsKeyBefore held key) (λ held. named held ≡ false) (λ held one. other_name held key one.1) done before)))
    (and_from uses (is_met as_next (making key)) (uses_are key.limit key.left is.uses.0 is.uses.1) made)))

-- the keys of a part one behind the other, behind those that are done
keys_onward : (part : Lasting) (done later : List KeyRecord) → AllByRecursion (IsStorableKey part.next_key) (done ++ later) → AreKeys (done ++ later) → length (done ++ later) ≤ MOST_KEYS
    → part.next_key ≤ NUMBERS_END → onward (rows_of part done []) (map held_key later) ≡ Some (rows_of part (done ++ later) [])
keys_onward part done [] each differ count end = ap (λ (keys : List KeyRecord). Some (rows_of part keys [])) (sym (append-nil done))
keys_onward part done (key ∷ later) each differ count end =
    let apart : done ++ key ∷ later ≡ (done ++ key ∷ []) ++ later = sym (append_assoc done (key ∷ []) later) in
    let met : may_hold (rows_of part done []).part key ≡ true =
    holds_key part done [] key (all_mid (IsStorableKey part.next_key) done key later each) end (keys_before done key later differ) (omega (arith, count, length-append done (key ∷ later))) in
    let more : onward (rows_of part (done ++ key ∷ []) []) (map held_key later) ≡ Some (rows_of part ((done ++ key ∷ []) ++ later) []) =
    keys_onward part (done ++ key ∷ []) later (subst (AllByRecursion (IsStorableKey part.next_key)) apart each) (subst AreKeys apart differ) (subst (λ (keys : List KeyRecord). length keys ≤ MOST_KEYS) apart count) end in
    ap (option_and_then (λ (next : ReadState). onward next (map held_key later))) (stepped_is (rows_of part done []) (held_key key) met)
    ∙ more ∙ ap (λ (keys : List KeyRecord). Some (rows_of part keys [])) (sym apart)

-- ---- grants

grants_before : (rows : List GrantRow) (row : GrantRow) (later : List GrantRow) → IsTable (rows ++ row ∷ later) → AllByRecursion (λ held. IsBefore held row) rows
grants_before [] row later t = tt
grants_before (first ∷ rows) row later t = (all_mid (IsBefore first) rows row later t.0, grants_before rows row later t.1)

holds_grant : (part : Lasting) (done : List GrantRow) (row : GrantRow) → IsStorableGrant part.next_grant part.keys row → AllByRecursion (λ held. IsBefore held row) done → length done < MOST_GRANTS
    → may_hold_grant (rows_of part part.keys done).part row ≡ true
holds_grant part done row is before place =
    let behind = list_all (λ (held : GrantRow). nat_lt held.grant row.grant) done in
    let live = some_has_id row.key part.keys in
    let free = not (list_any (is_for row.key row.uid) done) in
    let room = nat_lt (length done) MOST_GRANTS in
    and_from (is_given row.grant part.next_grant) (behind && (live && (free && room))) (given_is row.grant part.next_grant is.numbered.0 is.numbered.1)
    (and_from behind (live && (free && room))
    (test_from_all (λ (held : GrantRow). nat_lt held.grant row.grant) done (all_more (λ held. IsBefore held row) (λ held. nat_lt held.grant row.grant ≡ true) (λ held one. lt-ltb held.grant row.grant one.0) done before))
    (and_from live (free && room) is.live
    (and_from free room
    (not_from_false (list_any (is_for row.key row.uid) done) (test_from_none (is_for row.key row.uid) done (all_more (λ held. IsBefore held row) (λ held. is_for row.key row.uid held ≡ false) (λ held one. other_pair held row one.1) done before)))
    (lt-ltb (length done) MOST_GRANTS place))))

grants_onward : (part : Lasting) (done later : List GrantRow) → AllByRecursion (IsStorableGrant part.next_grant part.keys) (done ++ later) → IsTable (done ++ later) → length (done ++ later) ≤ MOST_GRANTS
    → onward (rows_of part part.keys done) (map held_grant later) ≡ Some (rows_of part part.keys (done ++ later))
grants_onward part done [] each differ count = ap (λ (rows : List GrantRow). Some (rows_of part part.keys rows)) (sym (append-nil done))
grants_onward part done (row ∷ later) each differ count =
    let apart : done ++ row ∷ later ≡ (done ++ row ∷ []) ++ later = sym (append_assoc done (row ∷ []) later) in
    let met : may_hold_grant (rows_of part part.keys done).part row ≡ true =
    holds_grant part done row (all_mid (IsStorableGrant part.next_grant part.keys) done row later each) (grants_before done row later differ) (omega (arith, count, length-append done (row ∷ later))) in
    let more : onward (rows_of part part.keys (done ++ row ∷ [])) (map held_grant later) ≡ Some (rows_of part part.keys ((done ++ row ∷ []) ++ later)) =
    grants_onward part (done ++ row ∷ []) later (subst (AllByRecursion (IsStorableGrant part.next_grant part.keys)) apart each) (subst IsTable apart differ)
    (subst (λ (rows : List GrantRow). length rows ≤ MOST_GRANTS) apart count) in
    ap (option_and_then (λ (next : ReadState). onward next (map held_grant later))) (stepped_is (rows_of part part.keys done) (held_grant row) met)
    ∙ more ∙ ap (λ (rows : List GrantRow). Some (rows_of part part.keys rows)) (sym apart)

-- ---- the whole

next_is : (number : ℕ) → (1 ≤ number) × (number ≤ NUMBERS_END) → is_next_number number ≡ true
next_is number is = and_from (nat_le 1 number) (nat_le number NUMBERS_END) (le-leb 1 number is.0) (le-leb number NUMBERS_END is.1)

pub restores_storable : (part : Lasting) → IsStorable part → state_of (reverse (snapshot part)) ≡ Some (record { part = part; phase = AmongRows })
restores_storable part is =
    let first : state_of (records.Next part.next_key part.next_grant ∷ []) ≡ Some (rows_of part [] []) =
    stepped_is (record { part = empty_lasting; phase = AtStart }) (records.Next part.next_key part.next_grant)
    (and_from (is_next_number part.next_key) (is_next_number part.next_grant) (next_is part.next_key is.next_key) (next_is part.next_grant is.next_grant)) in
    let keys : onward (rows_of part [] []) (map held_key part.keys) ≡ Some (rows_of part part.keys []) = keys_onward part [] part.keys is.keys is.keys_differ is.key_count is.next_key.1 in
    let grants : onward (rows_of part part.keys []) (map held_grant part.grants) ≡ Some (rows_of part part.keys part.grants) = grants_onward part [] part.grants is.grants is.grants_differ is.grant_count in
    let all : onward (rows_of part [] []) (map held_key part.keys ++ map held_grant part.grants) ≡ Some (rows_of part part.keys part.grants) =
    onward_on (map held_key part.keys) (map held_grant part.grants) (rows_of part [] []) (rows_of part part.keys []) keys ∙ grants in
    ap state_of (last_is (records.Next part.next_key part.next_grant) (map held_key part.keys ++ map held_grant part.grants))
    ∙ onward_from (map held_key part.keys ++ map held_grant part.grants) (records.Next part.next_key part.next_grant ∷ []) (rows_of part [] []) (rows_of part part.keys part.grants) first all
