-- Only a restart is answered that another store was read.
use Rattle.rule_model.specs.Tickets.{next_ticket}
use Rattle.rule_model.specs.StepFacts.{brought_by, brought_by_abort, step_facts}
use Rattle.rule_model.specs.Slots.{begin_facts, pruned_for}
use Rattle.rule_model.specs.Operations.{challenge_of}
use Rattle.rule_model.specs.KeySources.{KeySource, generated, imported}
use Rattle.rule_model.specs.NewFacts.{new_facts}
use Rattle.rule_model.specs.WrappedKeys.{unwrapped_in}
use Rattle.rule_model.specs.Kept.{has_busy, key_found}
use Rattle.rule_model.specs.Access.{id_by}
use Rattle.rule_model.specs.Entries.{count_of}
use Rattle.rule_model.specs.Changes.{new_blob, owner_for, planned}
use Rattle.rule_model.specs.Blobs.{device_at}
use Rattle.rule_model.specs.Calls.{add_auth_token_ruling, clear_namespace_ruling, counted_in, delete_key_ruling, disconnect_ruling, early_boot_ended_ruling, get_key_entry_ruling, grant_ruling, listed_in, listing_ruling, ungrant_ruling, user_call_ruling}
use Rattle.rule_model.specs.Boot.{has_early_ended}
use Rattle.rule_model.specs.Acts.{is_begin}
use Rattle.step_rules.specs.Table as step_table
use Rattle.use_rules.specs.Table as begin_table
use Rattle.key_rules.specs.Creation.{new_key}
use Rattle.std.proofs.Common.{◌≡◌, ℕ, ◌+◌, Bool, true, false, ◌==◌, if◌then◌else◌, List, [], length, Option, Some, None, Result, Ok, Err, refl, subst, sym}
use Rattle.std.specs.Option.{ok_or}
use Rattle.tags.specs.declared.code.Code.{Code}
use Rattle.tags.specs.declared.descriptor.Descriptor.{Descriptor}
use Rattle.tags.specs.declared.plan.Plan.{Plan}
use Rattle.auth_tokens.specs.declared.token.AuthToken.{AuthToken}
use Rattle.key_domains.specs.Domains.{domain_blob}
use Rattle.tags.specs.declared.plan.Plan.TheVariants.{Ecb, Cbc, Ctr, Gcm, HmacSign, HmacVerify}
use Rattle.tags.specs.declared.rule.Rule.{Rule}
use Rattle.tags.specs.declared.secrets.DeviceSecrets.{DeviceSecrets}
use Rattle.key_blobs.specs.declared.sealed.Sealed.{Sealed}
use Rattle.tags.specs.declared.code.Code.TheVariants.{StoreFull, TokensFull, VerificationFailed}
use Rattle.block_modes.specs.declared.fault.ModeFault.{ModeFault}
use Rattle.block_modes.specs.declared.fault.ModeFault.TheVariants.{Length, Padding}
use Rattle.cipher_ops.specs.declared.room.Work.{Work}
use Rattle.cipher_ops.specs.declared.room.Work.TheVariants.{Aad, Text, Last}
use Rattle.cipher_ops.specs.Output.{behind, coded, is_signature, verified, whole}
use Rattle.journal_records.specs.declared.record.KeyRecord.{KeyRecord}
use Rattle.journal_records.specs.LastingPart.{Lasting}
use Rattle.rule_model.specs.declared.event.Act.{Act}
use Rattle.rule_model.specs.declared.event.Act.TheVariants.{GenerateKey, ImportKey, CreateOperation, EnterAad, EnterUpdate, EnterFinish, Abort, Disconnect, GetKeyEntry, DeleteKey, Grant, Ungrant, GetNumberOfEntries, ListEntriesBatched, ClearNamespace, UserRemoved, AddAuthToken, DeviceLocked, DeviceUnlocked, EarlyBootEnded, Leave, UpgradeKey, ImportWrappedKey}
use Rattle.rule_model.specs.declared.event.Event.{Event}
use Rattle.rule_model.specs.declared.facts.Caller.{Caller}
use Rattle.rule_model.specs.declared.reply.Reply.{Reply}
use Rattle.rule_model.specs.declared.reply.Reply.TheVariants.{Done, Stopped}
use Rattle.rule_model.specs.Acts.{is_restart}
use Rattle.rule_model.specs.Answer.{answer_by_rules, begun_with, drawn_nonce, given_or, leaving, made_by, made_in, upgraded_with}
use Rattle.rule_model.specs.Access.{owner_of}
use Rattle.rule_model.specs.Boot.{last_tokens, other_triples}
use Rattle.rule_model.specs.Calls.{accepted_in, granted_in, key_entry}
use Rattle.rule_model.specs.Changes.{grant_number}
use Rattle.rule_model.specs.Entries.{History}
use Rattle.rule_model.specs.Kept.{kept, operation_at}
use Rattle.rule_model.specs.Legal.{MayFollow, Answered, WithoutMemory, WithoutEntropy, Faulted, NotSettled, NotRestarted}
use Rattle.rule_model.specs.declared.operation.Open.{Open}
use Rattle.rule_model.specs.Operations.{output_of}
use Rattle.rule_model.specs.Places.{has_grant_place, has_key_place}
use Rattle.rule_model.specs.Replies.{broken_or, no_fields}
use Rattle.rule_model.specs.Setup.{Setup}
use Rattle.rule_model.specs.declared.operation.Entered.{Entered}
use Rattle.rule_model.specs.Tickets.{ticket_at}
use Rattle.rule_model.specs.Tokens.{token_of}
use Rattle.rule_model.specs.Upgrades.{upgrade_in}
use Rattle.keystore_core.specs.Restarting.{is_other_code, is_other_store}
use Rattle.tags.specs.declared.limits.TheConstants.{MOST_TRIPLES}

broken_not : {T : Type 0} (ruling : Result T (Rule × Code)) (reply : Reply) → is_other_store reply ≡ false → is_other_store (broken_or ruling reply) ≡ false
broken_not (Ok found) reply e = e
broken_not (Err (rule, code)) reply e = refl

if_not : (b : Bool) (first second : Reply) → is_other_store first ≡ false → is_other_store second ≡ false → is_other_store (if b then first else second) ≡ false
if_not true first second e f = e
if_not false first second e f = f

-- no output is refused with that code
abbrev is_other : Result (List ℕ) Code → Bool
is_other (Ok bytes) = false
is_other (Err code) = is_other_code code

coded_not : (result : Result (List ℕ) ModeFault) → is_other (coded result) ≡ false
coded_not (Ok bytes) = refl
coded_not (Err Padding) = refl
coded_not (Err Length) = refl

opened_not : (found : Option (List ℕ)) → is_other (ok_or found VerificationFailed) ≡ false
opened_not None = refl
opened_not (Some text) = refl

verified_not : (digest least : ℕ) (mac : List ℕ) (signature : Option (List ℕ)) → is_other (verified digest least mac signature) ≡ false
verified_not digest least mac None = refl
verified_not digest least mac (Some signature) = either (is_signature digest least mac signature) where
  either : (b : Bool) → is_other (if b then Ok [] else Err VerificationFailed) ≡ false
  either true = refl
  either false = refl

whole_not : (plan : Plan) (key nonce aad text : List ℕ) (signature : Option (List ℕ)) → is_other (whole plan key nonce aad text signature) ≡ false
unfolding whole
whole_not (Gcm true tag) key nonce aad text signature = refl
whole_not (Gcm false tag) key nonce aad text signature = opened_not _
whole_not (HmacSign digest size) key nonce aad text signature = refl
whole_not (HmacVerify digest least) key nonce aad text signature = verified_not digest least _ signature
whole_not (Ecb seal padded) key nonce aad text signature = coded_not _
whole_not (Cbc seal padded) key nonce aad text signature = coded_not _
whole_not Ctr key nonce aad text signature = coded_not _

behind_not : (n : ℕ) (result : Result (List ℕ) Code) → is_other result ≡ false → is_other (behind n result) ≡ false
behind_not n (Ok bytes) e = refl
behind_not n (Err code) e = e

output_not : (found : Option Open) (work : Work) → is_other (output_of found work) ≡ false
output_not None work = refl
output_not (Some o) (Aad input) = refl
output_not (Some o) (Text input) = refl
output_not (Some o) (Last input signature) = behind_not _ (whole o.operation.plan o.operation.material o.operation.nonce o.aad _ signature) (whole_not o.operation.plan o.operation.material o.operation.nonce o.aad _ signature)

given_not : (work : Work) (result : Result (List ℕ) Code) → is_other result ≡ false → is_other_store (given_or work result) ≡ false
given_not work (Ok bytes) e = refl
given_not work (Err code) e = e

leaving_not : (setup : Setup) (past : History) (entered : Option Entered) → is_other_store (leaving setup past entered) ≡ false
leaving_not setup past None = refl
leaving_not setup past (Some entered) = given_not entered.work _ (output_not (operation_at setup past entered.op) entered.work)

granted_not : (part : Lasting) (key : Option ℕ) (uid : ℕ) → is_other_store (granted_in part key uid) ≡ false
granted_not part None uid = refl
granted_not part (Some key) uid = if_not (has_grant_place part key uid) (Done (record no_fields { grant = Some (grant_number part key uid) })) (Stopped StoreFull) refl refl

entry_not : (key : Option KeyRecord) → is_other_store (key_entry key) ≡ false
entry_not None = refl
entry_not (Some key) = refl

made_not : (part : Lasting) (caller : Caller) (key : Descriptor) (blob : List ℕ) → is_other_store (made_in part caller key blob) ≡ false
made_not part caller key blob =
    if_not (has_key_place part (owner_of caller) key) (Done (if key.domain == domain_blob then record no_fields { blob = Some blob } else record no_fields { key = Some part.next_key })) (Stopped StoreFull) refl refl

accepted_not : (tokens : List AuthToken) (token : AuthToken) → is_other_store (accepted_in tokens token) ≡ false
accepted_not tokens token = if_not (length (other_triples token tokens) == MOST_TRIPLES) (Stopped TokensFull) (Done no_fields) refl refl

upgraded_not : (device : DeviceSecrets) (key : Descriptor) (drawn : List ℕ) (ruled : Result (Option Sealed) (Rule × Code)) → is_other_store (upgraded_with device key drawn ruled) ≡ false
upgraded_not device key drawn (Ok change) = refl
upgraded_not device key drawn (Err (rule, code)) = refl

making_not : (setup : Setup) (past : History) (caller : Caller) (key : Descriptor) (params : List ℕ) (source : KeySource) (drawn : List ℕ)
    → is_other_store (made_by setup past caller key params source drawn) ≡ false
making_not setup past caller key params source drawn =
    broken_not (new_key (new_facts setup.device setup.policy caller key params source (has_early_ended setup past)))
    (made_in (kept setup past) caller key (new_blob (device_at setup past) (planned setup.device setup.policy caller key params source) source drawn))
    (made_not (kept setup past) caller key (new_blob (device_at setup past) (planned setup.device setup.policy caller key params source) source drawn))

-- no answer by the rules is that
rules_not : (act : Act) (setup : Setup) (past : History) (caller : Caller) (drawn : List ℕ) → is_other_store (answer_by_rules act setup past caller drawn) ≡ false
rules_not (GenerateKey key params) setup past caller drawn = making_not setup past caller key params generated drawn
rules_not (ImportKey key params format material) setup past caller drawn = making_not setup past caller key params (imported format material) drawn
rules_not (ImportWrappedKey key params wrapping wrapped unwrapping) setup past caller drawn =
    making_not setup past caller key params (unwrapped_in (device_at setup past) setup.policy (kept setup past) caller wrapping wrapped unwrapping) drawn
rules_not (CreateOperation key params forced) setup past caller drawn = broken_not (begin_table.answer (begin_facts setup past caller key params forced)) (begun_with (count_of is_begin past + 1) (challenge_of (begin_facts setup past caller key params forced) drawn) (drawn_nonce (begin_facts setup past caller key params forced) drawn) (pruned_for setup past (owner_of caller) forced)) refl
rules_not (EnterAad op input) setup past caller drawn = broken_not (step_table.answer (step_facts setup past caller op (brought_by (Aad input)))) (Done (record no_fields { ticket = Some (next_ticket past) })) refl
rules_not (EnterUpdate op input) setup past caller drawn = broken_not (step_table.answer (step_facts setup past caller op (brought_by (Text input)))) (Done (record no_fields { ticket = Some (next_ticket past) })) refl
rules_not (EnterFinish op input signature) setup past caller drawn = broken_not (step_table.answer (step_facts setup past caller op (brought_by (Last input signature)))) (Done (record no_fields { ticket = Some (next_ticket past) })) refl
rules_not (Abort op) setup past caller drawn = broken_not (step_table.answer (step_facts setup past caller op brought_by_abort)) (Done no_fields) refl
rules_not Disconnect setup past caller drawn = broken_not (disconnect_ruling caller (has_busy setup past caller.client)) (Done no_fields) refl
rules_not (GetKeyEntry key) setup past caller drawn = broken_not (get_key_entry_ruling setup.policy (kept setup past) caller key) (key_entry (key_found setup past caller key)) (entry_not (key_found setup past caller key))
rules_not (DeleteKey key) setup past caller drawn = broken_not (delete_key_ruling setup.policy (kept setup past) caller key) (Done no_fields) refl
rules_not (Grant key uid bits) setup past caller drawn = broken_not (grant_ruling setup.policy (kept setup past) caller key bits) (granted_in (kept setup past) (id_by setup.policy (kept setup past) caller key) uid) (granted_not (kept setup past) (id_by setup.policy (kept setup past) caller key) uid)
rules_not (Ungrant key uid) setup past caller drawn = broken_not (ungrant_ruling setup.policy (kept setup past) caller key uid) (Done no_fields) refl
rules_not (GetNumberOfEntries domain nspace) setup past caller drawn = broken_not (listing_ruling setup.policy caller domain nspace) (counted_in (kept setup past) (owner_for (owner_of caller) domain nspace)) refl
rules_not (ListEntriesBatched domain nspace behind) setup past caller drawn = broken_not (listing_ruling setup.policy caller domain nspace) (listed_in (kept setup past) (owner_for (owner_of caller) domain nspace) behind) refl
rules_not (ClearNamespace domain nspace) setup past caller drawn = broken_not (clear_namespace_ruling caller domain nspace) (Done no_fields) refl
rules_not (UserRemoved user) setup past caller drawn = broken_not (user_call_ruling caller user) (Done no_fields) refl
rules_not (AddAuthToken challenge user authenticator kind time mac) setup past caller drawn = broken_not (add_auth_token_ruling setup.device.token caller (token_of challenge user authenticator kind time mac)) (accepted_in (last_tokens setup past) (token_of challenge user authenticator kind time mac)) (accepted_not (last_tokens setup past) (token_of challenge user authenticator kind time mac))
rules_not (DeviceLocked user) setup past caller drawn = broken_not (user_call_ruling caller user) (Done no_fields) refl
rules_not (DeviceUnlocked user) setup past caller drawn = broken_not (user_call_ruling caller user) (Done no_fields) refl
rules_not EarlyBootEnded setup past caller drawn = broken_not (early_boot_ended_ruling caller) (Done no_fields) refl
rules_not (UpgradeKey key params) setup past caller drawn = upgraded_not (device_at setup past) key drawn (upgrade_in (device_at setup past) setup.policy (kept setup past) caller key params)
rules_not (Leave ticket) setup past caller drawn = leaving_not setup past (ticket_at past ticket)
rules_not _ setup past caller drawn = refl

-- so an entry that is, is of a restart
pub other_not : (setup : Setup) (past : History) (event : Event) (drawn : List ℕ) (reply : Reply) → is_restart event.act ≡ false → MayFollow setup past event drawn reply → is_other_store reply ≡ false
other_not setup past event drawn reply no_restart (Answered is) =
    subst (λ r. is_other_store r ≡ false) (sym is.is_answer) (rules_not event.act setup past _ drawn)
other_not setup past event drawn reply no_restart (WithoutMemory is) = subst (λ r. is_other_store r ≡ false) (sym is.is_want) refl
other_not setup past event drawn reply no_restart (WithoutEntropy is) = subst (λ r. is_other_store r ≡ false) (sym is.is_fault) refl
other_not setup past event drawn reply no_restart (Faulted is) = subst (λ r. is_other_store r ≡ false) (sym is.is_fault) refl
other_not setup past event drawn reply no_restart (NotSettled is) = subst (λ r. is_other_store r ≡ false) (sym is.is_fault) refl
other_not setup past event drawn reply no_restart (NotRestarted code is) = absurd (apart (is_restart event.act) no_restart is.restarts) where
  apart : (b : Bool) → b ≡ false → b ≡ true → ⊥
  apart true e f = cc
  apart false e f = cc

-- over a disk that tells its content no step is answered so, where no restart is
pub never_other : (setup : Setup) (past : History) (event : Event) (drawn : List ℕ) (reply : Reply) → (is_restart event.act ≡ true → is_other_store reply ≡ false) → MayFollow setup past event drawn reply → is_other_store reply ≡ false
never_other setup past event drawn reply restarts follows = by_act (is_restart event.act) refl where
  by_act : (b : Bool) → is_restart event.act ≡ b → is_other_store reply ≡ false
  by_act true e = restarts e
  by_act false e = other_not setup past event drawn reply e follows
