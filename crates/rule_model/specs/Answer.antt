-- The answer to an event over a history.
use Rattle.std.specs.Prelude.{ℕ, ◌+◌, ◌==◌, List, Option, Some, None, Result, Ok, Err, if◌then◌else◌, take}
use Rattle.tags.specs.declared.code.Code.{Code}
use Rattle.tags.specs.declared.code.Code.TheVariants.{NoTicket, StoreFull}
use Rattle.tags.specs.declared.rule.Rule.{Rule}
use Rattle.tags.specs.declared.secrets.DeviceSecrets.{DeviceSecrets}
use Rattle.key_blobs.specs.declared.sealed.Sealed.{Sealed}
use Rattle.tags.specs.declared.descriptor.Descriptor.{Descriptor}
use Rattle.key_domains.specs.Domains.{domain_blob}
use Rattle.journal_records.specs.LastingPart.{Lasting}
use Rattle.key_rules.specs.Creation.{new_key}
use Rattle.use_rules.specs.declared.facts.BeginFacts.{BeginFacts}
use Rattle.use_rules.specs.Table as begin_table
use Rattle.step_rules.specs.Table as step_table
use Rattle.cipher_ops.specs.declared.room.Work.{Work}
use Rattle.cipher_ops.specs.declared.room.Work.TheVariants.{Aad, Text, Last}
use Rattle.rule_model.specs.declared.event.Event.{Event}
use Rattle.rule_model.specs.declared.event.Act.{Act}
use Rattle.rule_model.specs.declared.event.Act.TheVariants.{Connect, Disconnect, GenerateKey, ImportKey, CreateOperation, EnterAad, EnterUpdate, EnterFinish, Abort, GetKeyEntry, DeleteKey, Grant, Ungrant, GetNumberOfEntries, ListEntriesBatched, AddAuthToken, DeviceLocked, DeviceUnlocked, EarlyBootEnded, ClearNamespace, UserRemoved, Leave, Restart, UpgradeKey, ImportWrappedKey}
use Rattle.rule_model.specs.declared.facts.Caller.{Caller}
use Rattle.rule_model.specs.declared.reply.Reply.{Reply}
use Rattle.rule_model.specs.declared.reply.Reply.TheVariants.{Broken, Done, Stopped}
use Rattle.rule_model.specs.Acts.{is_begin, is_connect}
use Rattle.rule_model.specs.Boot.{has_early_ended, last_tokens}
use Rattle.rule_model.specs.Calls.{accepted_in, add_auth_token_ruling, clear_namespace_ruling, counted_in, delete_key_ruling, disconnect_ruling, early_boot_ended_ruling, get_key_entry_ruling, grant_ruling, granted_in, key_entry, listed_in, listing_ruling, ungrant_ruling, user_call_ruling}
use Rattle.rule_model.specs.Blobs.{device_at}
use Rattle.rule_model.specs.Changes.{new_blob, owner_for, planned}
use Rattle.rule_model.specs.Clients.{caller_of}
use Rattle.rule_model.specs.Entries.{History, count_of}
use Rattle.rule_model.specs.Access.{id_by, owner_of}
use Rattle.rule_model.specs.Kept.{has_busy, kept, key_found, operation_at}
use Rattle.rule_model.specs.Places.{has_key_place}
use Rattle.rule_model.specs.KeySources.{KeySource, generated, imported}
use Rattle.rule_model.specs.NewFacts.{new_facts}
use Rattle.rule_model.specs.Operations.{challenge_of, nonce_size, output_of}
use Rattle.rule_model.specs.Replies.{broken_or, no_fields}
use Rattle.rule_model.specs.Setup.{Setup}
use Rattle.rule_model.specs.Slots.{begin_facts, pruned_for}
use Rattle.rule_model.specs.StepFacts.{brought_by, brought_by_abort, step_facts}
use Rattle.rule_model.specs.declared.operation.Entered.{Entered}
use Rattle.rule_model.specs.Tickets.{next_ticket, ticket_at}
use Rattle.rule_model.specs.Tokens.{token_of}
use Rattle.rule_model.specs.Upgrades.{blob_behind, upgrade_in}
use Rattle.rule_model.specs.WrappedKeys.{unwrapped_in}

-- the nonce that a begin drew
abbrev pub drawn_nonce : BeginFacts → List ℕ → Option (List ℕ)
drawn_nonce facts drawn = if nonce_size facts == 0 then None else Some (take (nonce_size facts) drawn)

-- what a work puts out stands in its reply; additional data puts out nothing
abbrev pub out_of : Work → List ℕ → Option (List ℕ)
out_of (Aad input) bytes = None
out_of (Text input) bytes = Some bytes
out_of (Last input signature) bytes = Some bytes

-- the reply to a work: what it puts out, or the code for which that is refused
abbrev pub given_or : Work → Result (List ℕ) Code → Reply
given_or work (Ok bytes) = Done (record no_fields { out = out_of work bytes })
given_or work (Err code) = Stopped code

-- a step that enters an operation with a work: the first broken rule of table S, or the next ticket
abbrev pub entering : Setup → History → Caller → ℕ → Work → Reply
entering setup past caller op work =
    broken_or (step_table.answer (step_facts setup past caller op (brought_by work))) (Done (record no_fields { ticket = Some (next_ticket past) }))

-- what the leave of a work answers: its output, or the code of its refusal; and where no work is out under the ticket, so
abbrev pub leaving : Setup → History → Option Entered → Reply
leaving setup past None = Stopped NoTicket
leaving setup past (Some entered) = given_or entered.work (output_of (operation_at setup past entered.op) entered.work)

-- the reply of a begin that is admitted
abbrev pub begun_with : ℕ → Option ℕ → Option (List ℕ) → Option ℕ → Reply
begun_with op challenge nonce pruned = Done (record no_fields { op = Some op; challenge = challenge; nonce = nonce; pruned = pruned })

-- A new key takes the next number, where there is a place for it. One that is made in BLOB is handed out as its blob.
abbrev pub made_in : Lasting → Caller → Descriptor → List ℕ → Reply
made_in part caller key blob =
    if has_key_place part (owner_of caller) key
    then Done (if key.domain == domain_blob then record no_fields { blob = Some blob } else record no_fields { key = Some part.next_key })
    else Stopped StoreFull

-- the answer to a call that makes a key: the first broken rule of table K, or what becomes of the key
abbrev pub made_by : Setup → History → Caller → Descriptor → List ℕ → KeySource → List ℕ → Reply
made_by setup past caller key params source drawn =
    broken_or (new_key (new_facts setup.device setup.policy caller key params source (has_early_ended setup past)))
    (made_in (kept setup past) caller key (new_blob (device_at setup past) (planned setup.device setup.policy caller key params source) source drawn))

-- what an upgrade answers: the first broken rule, or in BLOB the blob, which is the given one where nothing is sealed anew
abbrev pub upgraded_with : DeviceSecrets → Descriptor → List ℕ → Result (Option Sealed) (Rule × Code) → Reply
upgraded_with device key drawn (Err (rule, code)) = Broken rule code
upgraded_with device key drawn (Ok change) =
    Done (if key.domain == domain_blob then record no_fields { blob = Some (blob_behind device key drawn change) } else no_fields)

-- The answer by the rules: the first broken one of the call's table, or the reply with its fields.
abbrev pub answer_by_rules : Act → Setup → History → Caller → List ℕ → Reply
answer_by_rules (Connect uid) setup past caller drawn = Done (record no_fields { client = Some (count_of is_connect past + 1) })
answer_by_rules (GenerateKey key params) setup past caller drawn = made_by setup past caller key params generated drawn
answer_by_rules (ImportKey key params format material) setup past caller drawn = made_by setup past caller key params (imported format material) drawn
answer_by_rules (ImportWrappedKey key params wrapping wrapped unwrapping) setup past caller drawn =
    made_by setup past caller key params (unwrapped_in (device_at setup past) setup.policy (kept setup past) caller wrapping wrapped unwrapping) drawn
answer_by_rules (CreateOperation key params forced) setup past caller drawn =
    broken_or (begin_table.answer (begin_facts setup past caller key params forced))
    (begun_with (count_of is_begin past + 1) (challenge_of (begin_facts setup past caller key params forced) drawn)
    (drawn_nonce (begin_facts setup past caller key params forced) drawn) (pruned_for setup past (owner_of caller) forced))
answer_by_rules (EnterAad op input) setup past caller drawn = entering setup past caller op (Aad input)
answer_by_rules (EnterUpdate op input) setup past caller drawn = entering setup past caller op (Text input)
answer_by_rules (EnterFinish op input signature) setup past caller drawn = entering setup past caller op (Last input signature)
answer_by_rules (Abort op) setup past caller drawn =
    broken_or (step_table.answer (step_facts setup past caller op brought_by_abort)) (Done no_fields)
answer_by_rules Disconnect setup past caller drawn = broken_or (disconnect_ruling caller (has_busy setup past caller.client)) (Done no_fields)
answer_by_rules (GetKeyEntry key) setup past caller drawn =
    broken_or (get_key_entry_ruling setup.policy (kept setup past) caller key) (key_entry (key_found setup past caller key))
answer_by_rules (DeleteKey key) setup past caller drawn = broken_or (delete_key_ruling setup.policy (kept setup past) caller key) (Done no_fields)
answer_by_rules (Grant key uid bits) setup past caller drawn =
    broken_or (grant_ruling setup.policy (kept setup past) caller key bits) (granted_in (kept setup past) (id_by setup.policy (kept setup past) caller key) uid)
answer_by_rules (Ungrant key uid) setup past caller drawn = broken_or (ungrant_ruling setup.policy (kept setup past) caller key uid) (Done no_fields)
answer_by_rules (UpgradeKey key params) setup past caller drawn =
    upgraded_with (device_at setup past) key drawn (upgrade_in (device_at setup past) setup.policy (kept setup past) caller key params)
answer_by_rules (GetNumberOfEntries domain nspace) setup past caller drawn =
    broken_or (listing_ruling setup.policy caller domain nspace) (counted_in (kept setup past) (owner_for (owner_of caller) domain nspace))
answer_by_rules (ListEntriesBatched domain nspace behind) setup past caller drawn =
    broken_or (listing_ruling setup.policy caller domain nspace) (listed_in (kept setup past) (owner_for (owner_of caller) domain nspace) behind)
answer_by_rules (ClearNamespace domain nspace) setup past caller drawn = broken_or (clear_namespace_ruling caller domain nspace) (Done no_fields)
answer_by_rules (UserRemoved user) setup past caller drawn = broken_or (user_call_ruling caller user) (Done no_fields)
answer_by_rules (AddAuthToken challenge user authenticator kind time mac) setup past caller drawn =
    broken_or (add_auth_token_ruling setup.device.token caller (token_of challenge user authenticator kind time mac))
    (accepted_in (last_tokens setup past) (token_of challenge user authenticator kind time mac))
answer_by_rules (DeviceLocked user) setup past caller drawn = broken_or (user_call_ruling caller user) (Done no_fields)
answer_by_rules (DeviceUnlocked user) setup past caller drawn = broken_or (user_call_ruling caller user) (Done no_fields)
answer_by_rules EarlyBootEnded setup past caller drawn = broken_or (early_boot_ended_ruling caller) (Done no_fields)
answer_by_rules (Leave ticket) setup past caller drawn = leaving setup past (ticket_at past ticket)
answer_by_rules (Restart root) setup past caller drawn = Done no_fields

-- the answer to an event over the entries before it, with the bytes that were drawn for it
abbrev pub answer : Setup → History → Event → List ℕ → Reply
answer setup past event drawn = answer_by_rules event.act setup past (caller_of past event) drawn
