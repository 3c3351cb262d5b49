-- The keys and grants: what a step leaves of their relation to a history, and that the needs of a change are met.
use Rattle.std.proofs.Common.{◌≡◌, ℕ, Bool, true, false, ◌&&◌, ◌||◌, if◌then◌else◌, List, [], ◌∷◌, Option, Some, None, length, find, refl, sym, ap, subst, ◌∙◌}
use Rattle.std.specs.Prelude.{nat_lt}
use Rattle.std.specs.List.{list_any}
use Rattle.std.specs.Option.{option_map}
use Rattle.std.proofs.lemmas.Bool.{eq-eqb}
use Rattle.tags.specs.declared.descriptor.Descriptor.{Descriptor}
use Rattle.tags.specs.declared.policy.PolicyRow.{PolicyRow}
use Rattle.key_domains.specs.declared.access.Access.{Access}
use Rattle.key_domains.specs.declared.access.Access.TheVariants.{Found, Blob, Nothing}
use Rattle.grants.specs.declared.row.GrantRow.{GrantRow}
use Rattle.grants.specs.Rows.{is_for, is_numbered}
use Rattle.journal_records.specs.declared.record.KeyRecord.{KeyRecord}
use Rattle.journal_records.specs.LastingPart.{Lasting, has_id, some_has_id}
use Rattle.journal_records.specs.Needs.{is_grant_numbered, is_number_left}
use Rattle.journal_records.specs.declared.change.Change.{Change}
use Rattle.journal_records.specs.Effects.{after}
use Rattle.tags.specs.declared.settled.Settled.TheVariants.{Kept, Lost}
use Rattle.key_database.specs.declared.database.KeyDatabase.{KeyDatabase}
use Rattle.key_database.specs.Stands.{SameStore}
use Rattle.keystore_core.proofs.SameStores.{one_store_same, same_settled, same_twice}
use Rattle.rule_model.specs.declared.facts.Caller.{Caller}
use Rattle.rule_model.specs.Access.{access_by, id_by, id_of, key_in}
use Rattle.rule_model.specs.Changes.{grant_at, grant_number, grant_of}
use Rattle.rule_model.specs.Places.{has_grant_place}
use Rattle.rule_model.specs.Entries.{History}
use Rattle.rule_model.proofs.Kept.{SameStored}
use Rattle.rule_model.specs.Settling.{is_unsettled as waits}
use Rattle.rule_model.specs.Setup.{Setup}
use Rattle.keystore_core.specs.declared.tables.Tables.{Tables}
use Rattle.keystore_core.specs.Keys.{KeysStand, SameKeys, WaitsFor}
use Rattle.tags.specs.declared.limits.TheConstants.{MOST_GRANTS}

pub same_keys : (tables : Tables) → SameKeys tables tables
same_keys tables = record { device_is = refl; policy_is = refl; store_is = one_store_same tables.keys }

-- where the device, the policy and the store are one
pub same_keys_as : (old new : Tables) → new.device ≡ old.device → new.policy ≡ old.policy → new.keys ≡ old.keys → SameKeys old new
same_keys_as old new device policy keys = record { device_is = device; policy_is = policy; store_is = subst (λ k. SameStore old.keys k) (sym keys) (one_store_same old.keys) }

pub same_keys_twice : (old middle new : Tables) → SameKeys old middle → SameKeys middle new → SameKeys old new
same_keys_twice old middle new first second = record {
  device_is = second.device_is ∙ first.device_is;
  policy_is = second.policy_is ∙ first.policy_is;
  store_is = same_twice old.keys middle.keys new.keys first.store_is second.store_is;
}

-- what waits is the same over the same store, where a settling keeps as much after the later history
waits_still : (setup : Setup) (past later : History) (old new : KeyDatabase) (change : Change) → SameStore old new → SameStored setup past later → waits past ≡ true → WaitsFor setup old past change
    → WaitsFor setup new later change
waits_still setup past later old new change same is waiting before = record {
  pending_is = same.pending_is ∙ before.pending_is;
  made_is = ap (λ part. after part change) same.lasting_is ∙ before.made_is ∙ sym (is.waiting_kept Kept waiting);
  lost_is = same.lasting_is ∙ before.lost_is ∙ sym (is.waiting_kept Lost waiting);
}

-- an entry that leaves the keys and grants as they are
pub keys_stay : (setup : Setup) (past later : History) (old new : Tables) → KeysStand setup old past → SameKeys old new → SameStored setup past later
    → KeysStand setup new later
keys_stay setup past later old new stands same is = record {
  device_is = same.device_is ∙ stands.device_is ∙ sym is.device_is;
  policy_is = same.policy_is ∙ stands.policy_is;
  lasting_is = same.store_is.lasting_is ∙ stands.lasting_is ∙ sym is.kept_is;
  settled_is = same_settled old.keys new.keys same.store_is ∙ stands.settled_is ∙ sym is.settled_is;
  waiting = λ later_waits.
      let waiting : waits past ≡ true = sym is.settled_is ∙ later_waits in
      let before = stands.waiting waiting in
      (before.0, waits_still setup past later old.keys new.keys before.0 same.store_is is waiting before.1);
}

-- where nothing waits, nothing is to be said of what does
pub none_waits : {A : Type 0} (past : History) → waits past ≡ false → waits past ≡ true → A
none_waits past idle waiting = absurd (apart (waits past) idle waiting) where
  apart : (b : Bool) → b ≡ false → b ≡ true → ⊥
  apart true e f = cc
  apart false e f = cc

or_right : (a b : Bool) → b ≡ true → (a || b) ≡ true
or_right true b e = refl
or_right false b e = e

-- a key that a descriptor finds is live
id_found : (n id : ℕ) (keys : List KeyRecord) → id_of (find (has_id n) keys) ≡ Some id → some_has_id id keys ≡ true
id_found n id [] e = cc
id_found n id (key ∷ keys) e = by_test (has_id n key) (id_found n id keys) e where
  by_test : (b : Bool) → (id_of (find (has_id n) keys) ≡ Some id → some_has_id id keys ≡ true) → id_of (if b then Some key else find (has_id n) keys) ≡ Some id → (has_id id key || some_has_id id keys) ≡ true
  by_test true later same = let is : key.id ≡ id = cc in rw (eq-eqb key.id id is) refl
  by_test false later rest = or_right (has_id id key) (some_has_id id keys) (later rest)

pub found_live : (policy : List PolicyRow) (part : Lasting) (caller : Caller) (key : Descriptor) (id : ℕ) → id_by policy part caller key ≡ Some id → some_has_id id part.keys ≡ true
found_live policy part caller key id e = by_access (access_by policy part caller key) e where
  by_access : (access : Access) → id_of (key_in part access) ≡ Some id → some_has_id id part.keys ≡ true
  by_access (Found row bits) found = id_found row.id id part.keys found
  by_access (Blob bits) found = cc
  by_access Nothing found = cc

-- a grant that is found is held
number_found : (key uid grant : ℕ) (rows : List GrantRow) → option_map (λ (row : GrantRow). row.grant) (find (is_for key uid) rows) ≡ Some grant → list_any (is_numbered grant) rows ≡ true
number_found key uid grant [] e = cc
number_found key uid grant (row ∷ rows) e = by_test (is_for key uid row) (number_found key uid grant rows) e where
  by_test : (b : Bool) → (option_map (λ (r : GrantRow). r.grant) (find (is_for key uid) rows) ≡ Some grant → list_any (is_numbered grant) rows ≡ true) → option_map (λ (r : GrantRow). r.grant) (if b then Some row else find (is_for key uid) rows) ≡ Some grant → (is_numbered grant row || list_any (is_numbered grant) rows) ≡ true
  by_test true later same = let is : row.grant ≡ grant = cc in rw (eq-eqb row.grant grant is) refl
  by_test false later rest = or_right (is_numbered grant row) (list_any (is_numbered grant) rows) (later rest)

pub grant_held : (part : Lasting) (key : Option ℕ) (uid grant : ℕ) → grant_of part key uid ≡ Some grant → list_any (is_numbered grant) part.grants ≡ true
grant_held part None uid grant e = cc
grant_held part (Some key) uid grant e = number_found key uid grant part.grants e

-- a grant for which there is a place takes the number that it must have
pub may_grant : (part : Lasting) (key uid bits number : ℕ) → some_has_id key part.keys ≡ true → has_grant_place part key uid ≡ true → number ≡ grant_number part key uid
    → (some_has_id key part.keys && is_grant_numbered (find (is_for key uid) part.grants) (record { grant = number; key = key; uid = uid; bits = bits }) part) ≡ true
may_grant part key uid bits number live place is = rw live (by_held (grant_at part key uid) refl place is) where
  by_held : (held : Option GrantRow) → grant_at part key uid ≡ held → has_grant_place part key uid ≡ true → number ≡ grant_number part key uid
      → is_grant_numbered held (record { grant = number; key = key; uid = uid; bits = bits }) part ≡ true
  by_held (Some held) at has n = eq-eqb number held.grant (rw at at n)
  by_held None at has n =
      let next : number ≡ part.next_grant = rw at at n in
      let left : (is_number_left part.next_grant && nat_lt (length part.grants) MOST_GRANTS) ≡ true = rw at at has in
      rw (next, eq-eqb part.next_grant part.next_grant refl) left
