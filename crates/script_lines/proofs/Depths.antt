-- How deep the object of an event or of a reply nests: at most three levels.
use Rattle.std.proofs.Common.{◌≤◌, ℕ, pos, Bool, true, false, if◌then◌else◌, List, Option, codes, arith, refl}
use Rattle.tags.specs.Code.{code_number}
use Rattle.tags.specs.Rule.{rule_text}
use Rattle.tags.specs.declared.descriptor.Descriptor.{Descriptor}
use Rattle.rule_model.specs.Acts.{kind_of, row_of, text_of}
use Rattle.rule_model.specs.declared.event.Act.{Act}
use Rattle.rule_model.specs.declared.event.Act.TheVariants.{Connect, Disconnect, GenerateKey, ImportKey, CreateOperation, EnterAad, EnterUpdate, EnterFinish, Abort, GetKeyEntry, DeleteKey, Grant, Ungrant, GetNumberOfEntries, ListEntriesBatched, AddAuthToken, DeviceLocked, DeviceUnlocked, EarlyBootEnded, ClearNamespace, UserRemoved, Leave, Restart, UpgradeKey, ImportWrappedKey}
use Rattle.rule_model.specs.declared.event.Event.{Event}
use Rattle.rule_model.specs.declared.reply.Fields.{Fields}
use Rattle.rule_model.specs.declared.reply.Reply.{Reply}
use Rattle.rule_model.specs.declared.reply.Reply.TheVariants.{Done, Broken, Stopped}
use Rattle.serde_json.specs.Data.{string, object, Members, no_members, put, members_depth}
use Rattle.line_members.specs.Values.{number_data, signed_data, hex_data, text_data, alias_data, entries_data, with_field}
use Rattle.line_members.proofs.Depths.{put_depth, least, flat, if_there, an_alias, an_alias_deep, entries_depth}
use Rattle.script_lines.specs.EventLines.{reading_data, key_members, with_descriptor, with_key, with_act, with_client, event_members}
use Rattle.script_lines.specs.Replies.{with_numbers, with_bytes, reply_members}

-- ---- events

a_key : (key : Descriptor) → members_depth (key_members key) ≤ 1
a_key key =
    if_there hex_data _ key.blob 1 _ (λ x. least 1)
    (if_there alias_data _ key.alias 1 _ an_alias
    (flat (codes "nspace") (number_data key.nspace) 1 (put (codes "domain") (number_data key.domain) no_members) refl
    (flat (codes "domain") (number_data key.domain) 1 no_members refl (least 1))))

described : (name : List ℕ) (key : Descriptor) (ms : Members) → members_depth ms ≤ 2 → members_depth (with_descriptor name key ms) ≤ 2
described name key ms h = let inner = a_key key in put_depth 2 name (object (key_members key)) ms (omega (arith, inner)) h

keyed : (key : Descriptor) (ms : Members) → members_depth ms ≤ 2 → members_depth (with_key key ms) ≤ 2
keyed key ms h = described (codes "key") key ms h

act_depth : (act : Act) (ms : Members) → members_depth ms ≤ 2 → members_depth (with_act act ms) ≤ 2
act_depth (Connect uid) ms h = flat _ _ 2 _ refl h
act_depth Disconnect ms h = h
act_depth (GenerateKey key params) ms h = flat _ _ 2 _ refl (keyed key ms h)
act_depth (ImportKey key params format material) ms h = flat _ _ 2 _ refl (flat _ _ 2 _ refl (flat _ _ 2 _ refl (keyed key ms h)))
act_depth (CreateOperation key params forced) ms h = flat _ _ 2 _ refl (flat _ _ 2 _ refl (keyed key ms h))
act_depth (EnterAad op input) ms h = flat _ _ 2 _ refl (flat _ _ 2 _ refl h)
act_depth (EnterUpdate op input) ms h = flat _ _ 2 _ refl (flat _ _ 2 _ refl h)
act_depth (EnterFinish op input signature) ms h = if_there hex_data _ signature 2 _ (λ x. least 2) (flat _ _ 2 _ refl (flat _ _ 2 _ refl h))
act_depth (Abort op) ms h = flat _ _ 2 _ refl h
act_depth (GetKeyEntry key) ms h = keyed key ms h
act_depth (DeleteKey key) ms h = keyed key ms h
act_depth (Grant key uid bits) ms h = flat _ _ 2 _ refl (flat _ _ 2 _ refl (keyed key ms h))
act_depth (Ungrant key uid) ms h = flat _ _ 2 _ refl (keyed key ms h)
act_depth (GetNumberOfEntries domain nspace) ms h = flat _ _ 2 _ refl (flat _ _ 2 _ refl h)
act_depth (ListEntriesBatched domain nspace past) ms h = if_there alias_data _ past 2 _ an_alias_deep (flat _ _ 2 _ refl (flat _ _ 2 _ refl h))
act_depth (AddAuthToken challenge user authenticator kind time mac) ms h =
    flat _ _ 2 _ refl (flat _ _ 2 _ refl (flat _ _ 2 _ refl (flat _ _ 2 _ refl (flat _ _ 2 _ refl (flat _ _ 2 _ refl h)))))
act_depth (DeviceLocked user) ms h = flat _ _ 2 _ refl h
act_depth (DeviceUnlocked user) ms h = flat _ _ 2 _ refl h
act_depth EarlyBootEnded ms h = h
act_depth (ClearNamespace domain nspace) ms h = flat _ _ 2 _ refl (flat _ _ 2 _ refl h)
act_depth (UserRemoved user) ms h = flat _ _ 2 _ refl h
act_depth (Leave ticket) ms h = flat _ _ 2 _ refl h
act_depth (Restart root) ms h = if_there hex_data _ root 2 _ (λ x. least 2) h
act_depth (UpgradeKey key params) ms h = flat _ _ 2 _ refl (keyed key ms h)
act_depth (ImportWrappedKey key params wrapping wrapped unwrapping) ms h =
    flat _ _ 2 _ refl (flat _ _ 2 _ refl (described _ wrapping _ (flat _ _ 2 _ refl (keyed key ms h))))

client_depth : (b : Bool) (with without : Members) → members_depth with ≤ 2 → members_depth without ≤ 2 → members_depth (if b then with else without) ≤ 2
client_depth true with without h k = h
client_depth false with without h k = k

pub event_depth : (event : Event) → members_depth (event_members event) ≤ 2
event_depth event =
    let timed : Members = put (codes "t") (reading_data event.reading) no_members in
    let named : Members = put (codes "do") (string (text_of (kind_of event.act))) timed in
    let first : members_depth timed ≤ 2 = put_depth 2 (codes "t") (reading_data event.reading) no_members (omega arith) (least 2) in
    let second : members_depth named ≤ 2 = flat (codes "do") (string (text_of (kind_of event.act))) 2 timed refl first in
    act_depth event.act (with_client event named)
    (client_depth (row_of (kind_of event.act)).has_client (put (codes "c") (number_data event.client) named) named (flat (codes "c") (number_data event.client) 2 named refl second) second)

-- ---- replies

number_there : (k : List ℕ) (o : Option ℕ) (ms : Members) → members_depth ms ≤ 2 → members_depth (with_field number_data k o ms) ≤ 2
number_there k o ms h = if_there number_data k o 2 ms (λ x. least 2) h

hex_there : (k : List ℕ) (o : Option (List ℕ)) (ms : Members) → members_depth ms ≤ 2 → members_depth (with_field hex_data k o ms) ≤ 2
hex_there k o ms h = if_there hex_data k o 2 ms (λ x. least 2) h

numbers_depth : (fields : Fields) (ms : Members) → members_depth ms ≤ 2 → members_depth (with_numbers fields ms) ≤ 2
numbers_depth fields ms h =
    number_there _ fields.nspace _ (number_there _ fields.domain _ (number_there _ fields.uses _ (number_there _ fields.count _
    (number_there _ fields.grant _ (number_there _ fields.pruned _ (number_there _ fields.ticket _ (number_there _ fields.challenge _
    (number_there _ fields.op _ (number_there _ fields.key _ (number_there _ fields.client _ h))))))))))

bytes_depth : (fields : Fields) (ms : Members) → members_depth ms ≤ 2 → members_depth (with_bytes fields ms) ≤ 2
bytes_depth fields ms h =
    if_there entries_data _ fields.entries 2 _ entries_depth
    (hex_there _ fields.list _ (hex_there _ fields.blob _ (hex_there _ fields.out _ (hex_there _ fields.nonce _
    (if_there text_data _ fields.alias 2 _ (λ x. least 2) h)))))

pub reply_depth : (reply : Reply) → members_depth (reply_members reply) ≤ 2
reply_depth (Done fields) = bytes_depth fields _ (numbers_depth fields _ (flat (codes "code") (signed_data (pos 0)) 2 no_members refl (least 2)))
reply_depth (Broken rule code) =
    flat (codes "rule") (string (rule_text rule)) 2 (put (codes "code") (signed_data (code_number code)) no_members) refl
    (flat (codes "code") (signed_data (code_number code)) 2 no_members refl (least 2))
reply_depth (Stopped code) = flat (codes "code") (signed_data (code_number code)) 2 no_members refl (least 2)
