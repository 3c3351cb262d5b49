-- The calls that have no table of their own: what their rules read, and what they answer where none is broken.
use Rattle.std.specs.Prelude.{ℕ, Bool, false, ◌==◌, List, Option, Some, None, if◌then◌else◌, is_some, length}
use Rattle.std.specs.Option.{option_map_or}
use Rattle.std.specs.Str.{bytes_eq}
use Rattle.tags.specs.declared.code.Code.TheVariants.{StoreFull, TokensFull}
use Rattle.tags.specs.declared.descriptor.Descriptor.{Descriptor}
use Rattle.tags.specs.declared.policy.PolicyRow.{PolicyRow}
use Rattle.tags.specs.declared.rule.RuleTable.TheVariants.{A}
use Rattle.tags.specs.Table.{Ruling, first_broken}
use Rattle.call_rules.specs.declared.facts.KeyCallFacts.{KeyCallFacts}
use Rattle.call_rules.specs.declared.facts.SystemCallFacts.{SystemCallFacts}
use Rattle.call_rules.specs.Table.{clear_namespace_rules, delete_key_rules, disconnect_rules, get_key_entry_rules, grant_rules, listing_rules, system_call_rules, token_rules, ungrant_rules, user_call_rules}
use Rattle.auth_tokens.specs.declared.token.AuthToken.{AuthToken}
use Rattle.auth_tokens.specs.Mac.{token_mac}
use Rattle.key_domains.specs.declared.access.Access.{Access}
use Rattle.journal_records.specs.declared.record.KeyRecord.{KeyRecord}
use Rattle.journal_records.specs.LastingPart.{Lasting}
use Rattle.journal_records.specs.Lookups.{key_count}
use Rattle.rule_model.specs.declared.facts.Caller.{Caller}
use Rattle.rule_model.specs.declared.reply.Fields.{Fields}
use Rattle.rule_model.specs.declared.reply.Reply.{Reply}
use Rattle.rule_model.specs.declared.reply.Reply.TheVariants.{Done, Stopped}
use Rattle.rule_model.specs.Boot.{other_triples}
use Rattle.rule_model.specs.Access.{access_by, bits_in, id_by, key_in, row_for}
use Rattle.rule_model.specs.Changes.{grant_number, grant_of}
use Rattle.rule_model.specs.Listing.{listing}
use Rattle.rule_model.specs.Places.{has_grant_place}
use Rattle.rule_model.specs.Replies.{no_fields}
use Rattle.tags.specs.declared.limits.TheConstants.{MOST_TRIPLES}

-- ---- what the rules read

-- of a call on the key that a caller's descriptor finds
abbrev pub key_call_facts : List PolicyRow → Option KeyRecord → Access → Caller → Descriptor → KeyCallFacts
key_call_facts policy found access caller key = record {
  connected = is_some caller.uid;
  row = row_for policy caller key.nspace;
  found = is_some found;
  bits = bits_in access;
}

-- what the rules read of a call on the key that a descriptor finds
abbrev pub key_facts : List PolicyRow → Lasting → Caller → Descriptor → KeyCallFacts
key_facts policy part caller key =
    key_call_facts policy (key_in part (access_by policy part caller key)) (access_by policy part caller key) caller key

-- the uid of the system
abbrev pub SYSTEM : ℕ
SYSTEM = 1000

-- of a call that the system alone may make
abbrev pub system_facts : Caller → SystemCallFacts
system_facts caller = record { connected = is_some caller.uid; system = option_map_or (λ uid. uid == SYSTEM) caller.uid false }

-- ---- the first rule that each call breaks

-- table A of each call: the first rule that it breaks
abbrev pub disconnect_ruling : Caller → Bool → Ruling
disconnect_ruling caller busy = first_broken A (disconnect_rules (is_some caller.uid) busy)

-- of getKeyEntry
abbrev pub get_key_entry_ruling : List PolicyRow → Lasting → Caller → Descriptor → Ruling
get_key_entry_ruling policy part caller key = first_broken A (get_key_entry_rules key (key_facts policy part caller key))

-- of deleteKey
abbrev pub delete_key_ruling : List PolicyRow → Lasting → Caller → Descriptor → Ruling
delete_key_ruling policy part caller key = first_broken A (delete_key_rules key (key_facts policy part caller key))

-- of grant
abbrev pub grant_ruling : List PolicyRow → Lasting → Caller → Descriptor → ℕ → Ruling
grant_ruling policy part caller key bits = first_broken A (grant_rules key bits (key_facts policy part caller key))

-- of ungrant, which reads besides whether the uid has a grant of the key
abbrev pub ungrant_ruling : List PolicyRow → Lasting → Caller → Descriptor → ℕ → Ruling
ungrant_ruling policy part caller key uid =
    first_broken A (ungrant_rules key (is_some (grant_of part (id_by policy part caller key) uid)) (key_facts policy part caller key))

-- of getNumberOfEntries and listEntriesBatched
abbrev pub listing_ruling : List PolicyRow → Caller → ℕ → ℕ → Ruling
listing_ruling policy caller domain nspace = first_broken A (listing_rules (is_some caller.uid) domain (row_for policy caller nspace))

-- of clearNamespace
abbrev pub clear_namespace_ruling : Caller → ℕ → ℕ → Ruling
clear_namespace_ruling caller domain nspace = first_broken A (clear_namespace_rules domain nspace (system_facts caller))

-- of earlyBootEnded
abbrev pub early_boot_ended_ruling : Caller → Ruling
early_boot_ended_ruling caller = first_broken A (system_call_rules (system_facts caller))

-- the token's mac is that of its fields under the key that the device shares with the authenticators
abbrev pub has_right_mac : List ℕ → AuthToken → Bool
has_right_mac key token = bytes_eq token.mac (token_mac key token)

-- of addAuthToken, which reads besides whether the mac is that of the fields
abbrev pub add_auth_token_ruling : List ℕ → Caller → AuthToken → Ruling
add_auth_token_ruling key caller token = first_broken A (token_rules (has_right_mac key token) (system_facts caller))

-- of deviceLocked, deviceUnlocked and userRemoved
abbrev pub user_call_ruling : Caller → ℕ → Ruling
user_call_ruling caller user = first_broken A (user_call_rules user (system_facts caller))

-- ---- what each call answers where none is broken

-- how many uses are left, of a key that has a limit
abbrev pub uses_of : KeyRecord → Option ℕ
uses_of key = if key.limit == 0 then None else Some key.left

-- the entry of a key: whose it is, its alias, its list, and the uses that are left
abbrev pub entry_fields : KeyRecord → Fields
entry_fields key = record no_fields {
  key = Some key.id;
  uses = uses_of key;
  domain = Some key.domain;
  nspace = Some key.nspace;
  alias = Some key.alias;
  list = Some key.list;
}

-- the entry of the key that was found; where the rules let the call through there is one
abbrev pub key_entry : Option KeyRecord → Reply
key_entry None = Done no_fields
key_entry (Some key) = Done (entry_fields key)

-- a grant takes the number of the one that the key and the uid have, or the next one where there is a place for it
abbrev pub granted_in : Lasting → Option ℕ → ℕ → Reply
granted_in part None uid = Done no_fields
granted_in part (Some key) uid =
    if has_grant_place part key uid then Done (record no_fields { grant = Some (grant_number part key uid) }) else Stopped StoreFull

-- a token is accepted where at most 255 other triples have one
abbrev pub accepted_in : List AuthToken → AuthToken → Reply
accepted_in tokens token = if length (other_triples token tokens) == MOST_TRIPLES then Stopped TokensFull else Done no_fields

-- how many keys an owner has
abbrev pub counted_in : Lasting → ℕ × ℕ → Reply
counted_in part owner = Done (record no_fields { count = Some (key_count part owner.0 owner.1) })

-- the owner's keys behind an alias
abbrev pub listed_in : Lasting → ℕ × ℕ → Option (List ℕ) → Reply
listed_in part owner past = Done (record no_fields { entries = Some (listing part owner.0 owner.1 past) })
