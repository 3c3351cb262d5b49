-- Table A, the calls that have no table of their own: each call with its rules in their order, and the answer is the first
-- that does not hold.
use Rattle.std.specs.Prelude.{ℕ, Bool, not, List, [], ◌∷◌, ◌++◌, Option, is_ok}
use Rattle.tags.specs.declared.code.Code.TheVariants.{InvalidArgument, InvalidInputLength, InvalidKeyArgument, InvalidKeyBlob, KeyNotFound, OperationBusy, PermissionDenied, VerificationFailed}
use Rattle.tags.specs.declared.descriptor.Descriptor.{Descriptor}
use Rattle.tags.specs.Table.{Check, check}
use Rattle.key_domains.specs.declared.permission.Permission.{Permission}
use Rattle.key_domains.specs.declared.permission.Permission.TheVariants.{Delete, GetInfo, Grant}
use Rattle.key_domains.specs.Bits.{can_share, has}
use Rattle.key_domains.specs.Forms.{is_in_policy, names_any_key, names_key}
use Rattle.call_rules.specs.declared.facts.KeyCallFacts.{KeyCallFacts}
use Rattle.call_rules.specs.declared.facts.UpgradeFacts.{UpgradeFacts}
use Rattle.call_rules.specs.declared.facts.SystemCallFacts.{SystemCallFacts}
use Rattle.call_rules.specs.Rules.{fault_of, has_room, is_no_newer, is_owned, is_shared, is_user, may_list, names_owner, upgrade_permission}

-- disconnect
abbrev pub disconnect_rules : Bool → Bool → List Check
disconnect_rules connected busy =
    check 1 InvalidArgument connected ∷  -- the client is connected
    check 10 OperationBusy (not busy) ∷  -- no work on an operation of its own is out
    []

-- ---- a stored key

-- a call on a key, by the form of its descriptor and the permission that it takes
abbrev pub key_call_rules : Bool → Permission → Descriptor → KeyCallFacts → List Check
key_call_rules form permission key facts =
    check 1 InvalidArgument facts.connected ∷  -- the client is connected
    check 2 InvalidArgument form ∷  -- the descriptor has the call's form
    check 4 PermissionDenied (is_in_policy key.domain facts.row) ∷  -- SELINUX: the policy knows the caller there
    check 5 KeyNotFound facts.found ∷  -- the key is found
    check 6 PermissionDenied (has facts.bits permission) ∷  -- the caller has the call's permission
    []

-- getKeyEntry
abbrev pub get_key_entry_rules : Descriptor → KeyCallFacts → List Check
get_key_entry_rules key facts = key_call_rules (names_key key) GetInfo key facts

-- deleteKey
abbrev pub delete_key_rules : Descriptor → KeyCallFacts → List Check
delete_key_rules key facts = key_call_rules (names_key key) Delete key facts

-- grant, with the permissions that are to be shared
abbrev pub grant_rules : Descriptor → ℕ → KeyCallFacts → List Check
grant_rules key asked facts =
    key_call_rules (is_shared key.domain) Grant key facts ++
    check 8 PermissionDenied (can_share facts.bits asked) ∷  -- the caller shares what it has, and not GRANT
    []

-- ungrant, with whether there is a grant of the key to the uid
abbrev pub ungrant_rules : Descriptor → Bool → KeyCallFacts → List Check
ungrant_rules key shared facts =
    key_call_rules (is_shared key.domain) Grant key facts ++
    check 9 KeyNotFound shared ∷  -- the key is shared with the uid
    []

-- the rules of an upgrade behind those of the call
abbrev pub upgrade_rules : UpgradeFacts → List Check
upgrade_rules facts =
    check 11 (fault_of facts.asked) (is_ok facts.asked) ∷  -- the call's list reads
    check 12 InvalidKeyBlob facts.opens ∷  -- the key's blob opens
    check 13 InvalidKeyBlob facts.same ∷  -- for this device and these ids
    check 14 InvalidKeyArgument (is_no_newer facts) ∷  -- no version goes down
    check 14 InvalidInputLength (has_room facts) ∷  -- and the new list and blob are no longer than a key's may be
    []

-- upgradeKey
abbrev pub upgrade_key_rules : Descriptor → UpgradeFacts → List Check
upgrade_key_rules key facts = key_call_rules (names_any_key key) (upgrade_permission key.domain) key facts.call ++ upgrade_rules facts

-- getNumberOfEntries and listEntriesBatched
abbrev pub listing_rules : Bool → ℕ → Option ℕ → List Check
listing_rules connected domain row =
    check 1 InvalidArgument connected ∷  -- the client is connected
    check 2 InvalidArgument (is_owned domain) ∷  -- the keys of the domain have owners
    check 4 PermissionDenied (is_in_policy domain row) ∷  -- SELINUX: the policy knows the caller there
    check 6 PermissionDenied (may_list domain row) ∷  -- SELINUX: and lets it read what stands there
    []

-- ---- the system

-- earlyBootEnded
abbrev pub system_call_rules : SystemCallFacts → List Check
system_call_rules facts =
    check 1 InvalidArgument facts.connected ∷  -- the client is connected
    check 3 PermissionDenied facts.system ∷  -- it is the system
    []

-- addAuthToken, with whether the token's mac is right
abbrev pub token_rules : Bool → SystemCallFacts → List Check
token_rules is_right facts =
    system_call_rules facts ++
    check 7 VerificationFailed is_right ∷  -- the token's mac is right
    []

-- deviceLocked, deviceUnlocked and userRemoved
abbrev pub user_call_rules : ℕ → SystemCallFacts → List Check
user_call_rules user facts =
    check 1 InvalidArgument facts.connected ∷  -- the client is connected
    check 2 InvalidArgument (is_user user) ∷  -- there can be such a user
    check 3 PermissionDenied facts.system ∷  -- the client is the system
    []

-- clearNamespace
abbrev pub clear_namespace_rules : ℕ → ℕ → SystemCallFacts → List Check
clear_namespace_rules domain nspace facts =
    check 1 InvalidArgument facts.connected ∷  -- the client is connected
    check 2 InvalidArgument (names_owner domain nspace) ∷  -- there can be such an owner
    check 3 PermissionDenied facts.system ∷  -- the client is the system
    []
