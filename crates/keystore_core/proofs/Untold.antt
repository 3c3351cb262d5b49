-- A reply gives a ticket to an enter alone.
use Rattle.std.proofs.Common.{◌≡◌, ℕ, ◌+◌, Bool, true, false, ◌==◌, if◌then◌else◌, List, length, Option, Some, None, Result, Ok, Err, is_some, refl, sym, subst}
use Rattle.tags.specs.declared.code.Code.{Code}
use Rattle.tags.specs.declared.code.Code.TheVariants.{StoreFull, TokensFull}
use Rattle.tags.specs.declared.descriptor.Descriptor.{Descriptor}
use Rattle.tags.specs.declared.rule.Rule.{Rule}
use Rattle.tags.specs.declared.secrets.DeviceSecrets.{DeviceSecrets}
use Rattle.key_blobs.specs.declared.sealed.Sealed.{Sealed}
use Rattle.auth_tokens.specs.declared.token.AuthToken.{AuthToken}
use Rattle.key_domains.specs.Domains.{domain_blob}
use Rattle.key_rules.specs.Creation.{new_key}
use Rattle.use_rules.specs.Table as begin_table
use Rattle.step_rules.specs.Table as step_table
use Rattle.cipher_ops.specs.declared.room.Work.{Work}
use Rattle.journal_records.specs.declared.record.KeyRecord.{KeyRecord}
use Rattle.journal_records.specs.LastingPart.{Lasting}
use Rattle.rule_model.specs.declared.event.Act.{Act}
use Rattle.rule_model.specs.declared.event.Act.TheVariants.{GenerateKey, ImportKey, CreateOperation, EnterAad, EnterUpdate, EnterFinish, Abort, Disconnect, GetKeyEntry, DeleteKey, Grant, Ungrant, GetNumberOfEntries, ListEntriesBatched, ClearNamespace, UserRemoved, AddAuthToken, DeviceLocked, DeviceUnlocked, EarlyBootEnded, Leave, UpgradeKey, ImportWrappedKey}
use Rattle.rule_model.specs.declared.event.Event.{Event}
use Rattle.rule_model.specs.declared.facts.Caller.{Caller}
use Rattle.rule_model.specs.declared.reply.Fields.{Fields}
use Rattle.rule_model.specs.declared.reply.Reply.{Reply}
use Rattle.rule_model.specs.declared.reply.Reply.TheVariants.{Done, Broken, Stopped}
use Rattle.rule_model.specs.Access.{id_by, owner_of}
use Rattle.rule_model.specs.Acts.{is_begin, is_enter}
use Rattle.rule_model.specs.Answer.{answer_by_rules, begun_with, drawn_nonce, given_or, leaving, made_by, made_in, upgraded_with}
use Rattle.rule_model.specs.Blobs.{device_at}
use Rattle.rule_model.specs.Boot.{has_early_ended, last_tokens, other_triples}
use Rattle.rule_model.specs.Calls.{accepted_in, add_auth_token_ruling, clear_namespace_ruling, counted_in, delete_key_ruling, disconnect_ruling, early_boot_ended_ruling, get_key_entry_ruling, grant_ruling, granted_in, key_entry, listed_in, listing_ruling, ungrant_ruling, user_call_ruling}
use Rattle.rule_model.specs.Changes.{grant_number, new_blob, owner_for, planned}
use Rattle.rule_model.specs.Clients.{caller_of}
use Rattle.rule_model.specs.Entries.{History, count_of}
use Rattle.rule_model.specs.Kept.{has_busy, kept, key_found, operation_at}
use Rattle.rule_model.specs.Legal.{IsAnswered, MayFollow}
use Rattle.rule_model.specs.KeySources.{KeySource, generated, imported}
use Rattle.rule_model.specs.NewFacts.{new_facts}
use Rattle.rule_model.specs.WrappedKeys.{unwrapped_in}
use Rattle.rule_model.specs.Operations.{challenge_of, output_of}
use Rattle.rule_model.specs.Places.{has_grant_place, has_key_place}
use Rattle.rule_model.specs.Replies.{broken_or, no_fields}
use Rattle.rule_model.specs.Setup.{Setup}
use Rattle.rule_model.specs.Slots.{begin_facts, pruned_for}
use Rattle.rule_model.specs.StepFacts.{brought_by_abort, step_facts}
use Rattle.rule_model.specs.declared.operation.Entered.{Entered}
use Rattle.rule_model.specs.Tickets.{ticket_at}
use Rattle.rule_model.specs.Tokens.{token_of}
use Rattle.rule_model.specs.Upgrades.{blob_behind, upgrade_in}
use Rattle.rule_model.proofs.Admitted.{answered_done}
use Rattle.tags.specs.declared.limits.TheConstants.{MOST_TRIPLES}

abbrev tells_ticket : Reply → Bool
tells_ticket (Done fields) = is_some fields.ticket
tells_ticket (Broken rule code) = false
tells_ticket (Stopped code) = false

broken_untold : {T : Type 0} (ruling : Result T (Rule × Code)) (reply : Reply) → tells_ticket reply ≡ false → tells_ticket (broken_or ruling reply) ≡ false
broken_untold (Ok found) reply e = e
broken_untold (Err (rule, code)) reply e = refl

if_untold : (b : Bool) (first second : Reply) → tells_ticket first ≡ false → tells_ticket second ≡ false → tells_ticket (if b then first else second) ≡ false
if_untold true first second e f = e
if_untold false first second e f = f

given_untold : (work : Work) (result : Result (List ℕ) Code) → tells_ticket (given_or work result) ≡ false
given_untold work (Ok bytes) = refl
given_untold work (Err code) = refl

leaving_untold : (setup : Setup) (past : History) (entered : Option Entered) → tells_ticket (leaving setup past entered) ≡ false
leaving_untold setup past None = refl
leaving_untold setup past (Some entered) = given_untold entered.work (output_of (operation_at setup past entered.op) entered.work)

granted_untold : (part : Lasting) (key : Option ℕ) (uid : ℕ) → tells_ticket (granted_in part key uid) ≡ false
granted_untold part None uid = refl
granted_untold part (Some key) uid = if_untold (has_grant_place part key uid) (Done (record no_fields { grant = Some (grant_number part key uid) })) (Stopped StoreFull) refl refl

entry_untold : (key : Option KeyRecord) → tells_ticket (key_entry key) ≡ false
entry_untold None = refl
entry_untold (Some key) = refl

handed_untold : (handed : Bool) (blob : List ℕ) (number : ℕ) → tells_ticket (Done (if handed then record no_fields { blob = Some blob } else record no_fields { key = Some number })) ≡ false
handed_untold true blob number = refl
handed_untold false blob number = refl

made_untold : (part : Lasting) (caller : Caller) (key : Descriptor) (blob : List ℕ) → tells_ticket (made_in part caller key blob) ≡ false
made_untold part caller key blob =
    if_untold (has_key_place part (owner_of caller) key) (Done (if key.domain == domain_blob then record no_fields { blob = Some blob } else record no_fields { key = Some part.next_key })) (Stopped StoreFull)
    (handed_untold (key.domain == domain_blob) blob part.next_key) refl

accepted_untold : (tokens : List AuthToken) (token : AuthToken) → tells_ticket (accepted_in tokens token) ≡ false
accepted_untold tokens token = if_untold (length (other_triples token tokens) == MOST_TRIPLES) (Stopped TokensFull) (Done no_fields) refl refl

upgraded_untold : (device : DeviceSecrets) (key : Descriptor) (drawn : List ℕ) (ruled : Result (Option Sealed) (Rule × Code)) → tells_ticket (upgraded_with device key drawn ruled) ≡ false
upgraded_untold device key drawn (Ok change) = by_domain (key.domain == domain_blob) where
  by_domain : (handed : Bool) → tells_ticket (Done (if handed then record no_fields { blob = Some (blob_behind device key drawn change) } else no_fields)) ≡ false
  by_domain true = refl
  by_domain false = refl
upgraded_untold device key drawn (Err (rule, code)) = refl

making_untold : (setup : Setup) (past : History) (caller : Caller) (key : Descriptor) (params : List ℕ) (source : KeySource) (drawn : List ℕ)
    → tells_ticket (made_by setup past caller key params source drawn) ≡ false
making_untold setup past caller key params source drawn =
    broken_untold (new_key (new_facts setup.device setup.policy caller key params source (has_early_ended setup past)))
    (made_in (kept setup past) caller key (new_blob (device_at setup past) (planned setup.device setup.policy caller key params source) source drawn))
    (made_untold (kept setup past) caller key (new_blob (device_at setup past) (planned setup.device setup.policy caller key params source) source drawn))

rules_untold : (act : Act) (setup : Setup) (past : History) (caller : Caller) (drawn : List ℕ) → is_enter act ≡ false → tells_ticket (answer_by_rules act setup past caller drawn) ≡ false
rules_untold (GenerateKey key params) setup past caller drawn e = making_untold setup past caller key params generated drawn
rules_untold (ImportKey key params format material) setup past caller drawn e = making_untold setup past caller key params (imported format material) drawn
rules_untold (ImportWrappedKey key params wrapping wrapped unwrapping) setup past caller drawn e =
    making_untold setup past caller key params (unwrapped_in (device_at setup past) setup.policy (kept setup past) caller wrapping wrapped unwrapping) drawn
rules_untold (CreateOperation key params forced) setup past caller drawn e = broken_untold (begin_table.answer (begin_facts setup past caller key params forced)) (begun_with (count_of is_begin past + 1) (challenge_of (begin_facts setup past caller key params forced) drawn) (drawn_nonce (begin_facts setup past caller key params forced) drawn) (pruned_for setup past (owner_of caller) forced)) refl
rules_untold (EnterAad op input) setup past caller drawn e = cc
rules_untold (EnterUpdate op input) setup past caller drawn e = cc
rules_untold (EnterFinish op input signature) setup past caller drawn e = cc
rules_untold (Abort op) setup past caller drawn e = broken_untold (step_table.answer (step_facts setup past caller op brought_by_abort)) (Done no_fields) refl
rules_untold Disconnect setup past caller drawn e = broken_untold (disconnect_ruling caller (has_busy setup past caller.client)) (Done no_fields) refl
rules_untold (GetKeyEntry key) setup past caller drawn e = broken_untold (get_key_entry_ruling setup.policy (kept setup past) caller key) (key_entry (key_found setup past caller key)) (entry_untold (key_found setup past caller key))
rules_untold (DeleteKey key) setup past caller drawn e = broken_untold (delete_key_ruling setup.policy (kept setup past) caller key) (Done no_fields) refl
rules_untold (Grant key uid bits) setup past caller drawn e = broken_untold (grant_ruling setup.policy (kept setup past) caller key bits) (granted_in (kept setup past) (id_by setup.policy (kept setup past) caller key) uid) (granted_untold (kept setup past) (id_by setup.policy (kept setup past) caller key) uid)
rules_untold (Ungrant key uid) setup past caller drawn e = broken_untold (ungrant_ruling setup.policy (kept setup past) caller key uid) (Done no_fields) refl
rules_untold (GetNumberOfEntries domain nspace) setup past caller drawn e = broken_untold (listing_ruling setup.policy caller domain nspace) (counted_in (kept setup past) (owner_for (owner_of caller) domain nspace)) refl
rules_untold (ListEntriesBatched domain nspace behind) setup past caller drawn e = broken_untold (listing_ruling setup.policy caller domain nspace) (listed_in (kept setup past) (owner_for (owner_of caller) domain nspace) behind) refl
rules_untold (ClearNamespace domain nspace) setup past caller drawn e = broken_untold (clear_namespace_ruling caller domain nspace) (Done no_fields) refl
rules_untold (UserRemoved user) setup past caller drawn e = broken_untold (user_call_ruling caller user) (Done no_fields) refl
rules_untold (AddAuthToken challenge user authenticator kind time mac) setup past caller drawn e = broken_untold (add_auth_token_ruling setup.device.token caller (token_of challenge user authenticator kind time mac)) (accepted_in (last_tokens setup past) (token_of challenge user authenticator kind time mac)) (accepted_untold (last_tokens setup past) (token_of challenge user authenticator kind time mac))
rules_untold (DeviceLocked user) setup past caller drawn e = broken_untold (user_call_ruling caller user) (Done no_fields) refl
rules_untold (DeviceUnlocked user) setup past caller drawn e = broken_untold (user_call_ruling caller user) (Done no_fields) refl
rules_untold EarlyBootEnded setup past caller drawn e = broken_untold (early_boot_ended_ruling caller) (Done no_fields) refl
rules_untold (UpgradeKey key params) setup past caller drawn e = upgraded_untold (device_at setup past) key drawn (upgrade_in (device_at setup past) setup.policy (kept setup past) caller key params)
rules_untold (Leave ticket) setup past caller drawn e = leaving_untold setup past (ticket_at past ticket)
rules_untold _ setup past caller drawn e = refl

no_ticket : (ticket : Option ℕ) → is_some ticket ≡ false → ticket ≡ None
no_ticket None e = refl
no_ticket (Some number) e = cc

pub untold : (setup : Setup) (past : History) (event : Event) (drawn : List ℕ) (fields : Fields) → is_enter event.act ≡ false → MayFollow setup past event drawn (Done fields) → fields.ticket ≡ None
untold setup past event drawn fields e may =
    let is : IsAnswered setup past event drawn (Done fields) = answered_done setup past event drawn fields may in
    no_ticket fields.ticket
    (subst (λ r. tells_ticket r ≡ false) (sym is.is_answer)
    (rules_untold event.act setup past (caller_of past event) drawn e))
