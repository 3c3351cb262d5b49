-- Each reply fits the room that is taken for it before the step.
use Rattle.std.proofs.Common.{◌≡◌, ℕ, zero, suc, ◌+◌, ◌≤◌, Bool, true, false, ◌==◌, if◌then◌else◌, List, [], ◌∷◌, length, length-drop, length-take, take, drop, filter, Option, Some, None, Result, Ok, Err, is_ok, refl, sym, ap, subst, arith}
use Rattle.std.specs.Ordering.{is_gt}
use Rattle.std.specs.Prelude.{IfOk, IfSome, All, unwrap_or}
use Rattle.std.proofs.lemmas.List.Elements.{All-cons, All-nil}
use Rattle.tags.specs.declared.code.Code.{Code}
use Rattle.tags.specs.declared.code.Code.TheVariants.{StoreFull, TokensFull}
use Rattle.tags.specs.declared.descriptor.Descriptor.{Descriptor}
use Rattle.tags.specs.declared.param.Param.{Param}
use Rattle.tags.specs.declared.rule.Rule.{Rule}
use Rattle.tags.specs.declared.policy.PolicyRow.{PolicyRow}
use Rattle.tags.specs.declared.rule.RuleTable.TheVariants.{A, K}
use Rattle.tags.specs.declared.secrets.DeviceSecrets.{DeviceSecrets}
use Rattle.tags.specs.declared.settled.Settled.{Settled}
use Rattle.tags.specs.Table.{Ruling, first_broken, where_all_hold}
use Rattle.tag_lists.specs.Versions.{is_no_older}
use Rattle.auth_tokens.specs.declared.token.AuthToken.{AuthToken}
use Rattle.key_domains.specs.declared.access.Access.{Access}
use Rattle.key_domains.specs.declared.access.Access.TheVariants.{Found, Blob, Nothing}
use Rattle.key_domains.specs.Domains.{domain_blob}
use Rattle.key_blobs.specs.declared.fault.BlobFault.{BlobFault}
use Rattle.key_blobs.specs.declared.sealed.Opened.{Opened}
use Rattle.key_blobs.specs.declared.sealed.Sealed.{Sealed}
use Rattle.key_blobs.specs.Blobs.{blob_of}
use Rattle.key_blobs.proofs.BlobSizes.{blob_few}
use Rattle.key_rules.specs.Asked.{asked as asked_in}
use Rattle.key_rules.specs.declared.facts.NewFacts.{NewFacts}
use Rattle.key_rules.specs.declared.plan.KeyPlan.{KeyPlan}
use Rattle.key_rules.specs.Creation.{IsFit, plan_of}
use Rattle.key_rules.specs.Table.{rules_of}
use Rattle.key_rules.proofs.NewKeys.{fit_if_ok}
use Rattle.keymint_ops.proofs.BlobSizes.{id_few}
use Rattle.call_rules.specs.declared.facts.KeyCallFacts.{KeyCallFacts}
use Rattle.call_rules.specs.Table.{upgrade_key_rules}
use Rattle.use_rules.specs.Plans.{nonce_wanted}
use Rattle.use_rules.specs.Rules.{is_gcm}
use Rattle.use_rules.specs.Table as begin_table
use Rattle.use_rules.specs.Table.{asked_of, key_of}
use Rattle.step_rules.specs.Table as step_table
use Rattle.cipher_ops.specs.declared.room.Work.{Work}
use Rattle.cipher_ops.specs.declared.room.Work.TheVariants.{Aad, Text, Last}
use Rattle.journal_records.specs.declared.record.KeyRecord.{KeyRecord}
use Rattle.journal_records.specs.LastingPart.{Lasting, has_id}
use Rattle.journal_records.specs.Lookups.{alias_cmp, is_listed, least, lesser, next_key}
use Rattle.journal_records.specs.Storable.{IsStorable}
use Rattle.rule_model.specs.declared.entry.Entry.TheVariants.{Settling}
use Rattle.rule_model.specs.declared.event.Act.{Act}
use Rattle.rule_model.specs.declared.event.Act.TheVariants.{GenerateKey, ImportKey, CreateOperation, EnterAad, EnterUpdate, EnterFinish, Abort, Disconnect, GetKeyEntry, DeleteKey, Grant, Ungrant, GetNumberOfEntries, ListEntriesBatched, ClearNamespace, UserRemoved, AddAuthToken, DeviceLocked, DeviceUnlocked, EarlyBootEnded, Leave, UpgradeKey, ImportWrappedKey}
use Rattle.rule_model.specs.declared.event.Event.{Event}
use Rattle.rule_model.specs.declared.facts.Caller.{Caller}
use Rattle.rule_model.specs.declared.field_sizes.FieldSizes.{FieldSizes}
use Rattle.rule_model.specs.declared.reply.Reply.{Reply}
use Rattle.rule_model.specs.declared.reply.Reply.TheVariants.{Done, Stopped}
use Rattle.rule_model.specs.Access.{access_by, id_by, key_in, owner_of}
use Rattle.rule_model.specs.Acts.{fixed_for, is_begin}
use Rattle.rule_model.specs.Answer.{answer_by_rules, begun_with, drawn_nonce, given_or, leaving, made_by, upgraded_with}
use Rattle.rule_model.specs.BeginFacts.{blob_for}
use Rattle.rule_model.specs.Blobs.{device_at, kept_as, opened_for, root_of}
use Rattle.rule_model.specs.Boot.{has_early_ended, last_tokens, other_triples}
use Rattle.rule_model.specs.Calls.{accepted_in, add_auth_token_ruling, clear_namespace_ruling, counted_in, delete_key_ruling, disconnect_ruling, early_boot_ended_ruling, get_key_entry_ruling, grant_ruling, granted_in, key_entry, listed_in, listing_ruling, ungrant_ruling, user_call_ruling}
use Rattle.rule_model.specs.Changes.{grant_number, material_of, new_blob, owner_for}
use Rattle.rule_model.specs.Clients.{caller_of}
use Rattle.rule_model.specs.Drawn.{no_pieces, size_of, wanted_by_key, wanted_by_rules, wanted_by_upgrade, wanted_to_make}
use Rattle.rule_model.specs.Entries.{History, count_of}
use Rattle.rule_model.specs.Kept.{access_at, has_busy, kept, key_found, operation_at}
use Rattle.rule_model.specs.Legal.{Legal, MayFollow, MayStep, Answered, WithoutMemory, WithoutEntropy, Faulted, NotSettled, NotRestarted}
use Rattle.rule_model.specs.Listing.{listed_from}
use Rattle.rule_model.specs.KeySources.{KeySource, generated, imported}
use Rattle.rule_model.specs.NewFacts.{new_facts}
use Rattle.rule_model.specs.WrappedKeys.{unwrapped_in}
use Rattle.rule_model.proofs.WrappedTexts.{unwrapped_short}
use Rattle.rule_model.specs.Operations.{challenge_of, nonce_size, output_of}
use Rattle.rule_model.specs.Places.{has_grant_place, has_key_place}
use Rattle.rule_model.specs.Replies.{broken_or, no_fields}
use Rattle.rule_model.specs.ReplyRooms.{Fits, IsWithin, NONCE, no_sizes, sizes_of}
use Rattle.rule_model.specs.Setup.{Setup}
use Rattle.rule_model.specs.Slots.{begin_facts, pruned_for}
use Rattle.rule_model.specs.StepFacts.{brought_by, brought_by_abort, step_facts}
use Rattle.rule_model.specs.declared.operation.Entered.{Entered}
use Rattle.rule_model.specs.Tickets.{next_ticket, ticket_at}
use Rattle.rule_model.specs.Tokens.{token_of}
use Rattle.rule_model.specs.Upgrades.{list_opened, upgrade_call_facts, upgrade_facts, upgrade_in, upgraded}
use Rattle.rule_model.proofs.Bounds.{Each, each_found, each_left}
use Rattle.rule_model.proofs.HandedKeys.{lies_where}
use Rattle.rule_model.proofs.KeySizes.{AreShort, IsShort, kept_short}
use Rattle.rule_model.proofs.UpgradedKeys.{found_held, upgrade_fits}
use Rattle.keystore_core.specs.Outputs.{HasOutRoom, output_out}
use Rattle.tags.specs.declared.limits.TheConstants.{ALIAS_BYTES, BLOB_BYTES, LISTED, MOST_TRIPLES}

-- ---- through the layers of an answer

broken_fits : {T : Type 0} (sizes : FieldSizes) (ruling : Result T (Rule × Code)) (reply : Reply) → Fits sizes reply → Fits sizes (broken_or ruling reply)
broken_fits sizes (Ok found) reply fits = fits
broken_fits sizes (Err (rule, code)) reply fits = tt

if_fits : (sizes : FieldSizes) (b : Bool) (first second : Reply) → Fits sizes first → Fits sizes second → Fits sizes (if b then first else second)
if_fits sizes true first second e f = e
if_fits sizes false first second e f = f

-- ---- a new key

take_few : (n : ℕ) (bytes : List ℕ) → length (take n bytes) ≤ n
take_few n bytes = omega (arith, length-take n bytes)

-- what is handed out as its blob, of a device whose root of trust has 32 bytes
blob_fits : (device : DeviceSecrets) (plan : KeyPlan) (facts : NewFacts) (material drawn : List ℕ) → length device.root ≡ 32 → IsFit facts plan → length material ≤ 64 → length drawn ≡ plan.size + 12
    → length (kept_as device plan (drop plan.size drawn) material) ≤ BLOB_BYTES
blob_fits device plan facts material drawn long fit short drew =
    let x : Sealed = record { root = device.root; app_id = plan.app_id; app_bytes = plan.app_bytes; list = plan.list; material = material } in
    let twelve : length (drop plan.size drawn) ≡ 12 = omega (arith, length-drop plan.size drawn, drew) in
    omega (
      arith,
      blob_few device.seal (drop plan.size drawn) x twelve long,
      id_few plan.app_id fit.small.id,
      id_few plan.app_bytes fit.small.bytes,
      fit.small.listed,
      short,
    )

key_fits : (ruling : Ruling) (plan : KeyPlan) (place handed : Bool) (blob : List ℕ) (number : ℕ) (drawn : List ℕ) → (is_ok (where_all_hold ruling plan) ≡ true → length drawn ≡ plan.size + 12 → length blob ≤ BLOB_BYTES)
    → length drawn ≡ size_of (wanted_by_key (where_all_hold ruling plan) place)
    → Fits (record no_sizes { blob = BLOB_BYTES }) (broken_or (where_all_hold ruling plan) (if place then Done (if handed then record no_fields { blob = Some blob } else record no_fields { key = Some number }) else Stopped StoreFull))
key_fits (Err (rule, code)) plan place handed blob number drawn few drew = tt
key_fits (Ok done) plan false handed blob number drawn few drew = tt
key_fits (Ok done) plan true true blob number drawn few drew = record { alias = tt; nonce = tt; out = tt; blob = few refl drew; list = tt; entries = tt }
key_fits (Ok done) plan true false blob number drawn few drew = record { alias = tt; nonce = tt; out = tt; blob = tt; list = tt; entries = tt }

material_few : (material : Option (List ℕ)) (size : ℕ) (drawn : List ℕ) → IfSome material (λ bytes. length bytes ≤ 64) → size ≤ 64
    → length (material_of material (take size drawn)) ≤ 64
material_few None size drawn short few = omega (arith, take_few size drawn, few)
material_few (Some material) size drawn short few = short

-- by where the material comes from: one that comes in is as short as the rules of an import have it
making_fits : (setup : Setup) (past : History) (caller : Caller) (key : Descriptor) (params : List ℕ) (source : KeySource) (drawn : List ℕ) → length (root_of setup past) ≡ 32
    → (IfSome source.import (λ import. import.length ≤ 64) → IfSome source.material (λ material. length material ≤ 64))
    → length drawn ≡ size_of (wanted_to_make setup past caller key params source) → Fits (record no_sizes { blob = BLOB_BYTES }) (made_by setup past caller key params source drawn)
making_fits setup past caller key params source drawn long short drew =
    let facts : NewFacts = new_facts setup.device setup.policy caller key params source (has_early_ended setup past) in
    let plan : KeyPlan = plan_of facts in
    key_fits (first_broken K (rules_of facts)) plan (has_key_place (kept setup past) (owner_of caller) key) (key.domain == domain_blob) (new_blob (device_at setup past) plan source drawn) (kept setup past).next_key drawn
    (λ through sized.
    let fit : IsFit facts plan = fit_if_ok facts through in
    blob_fits (device_at setup past) plan facts (material_of source.material (take plan.size drawn)) drawn long fit
    (material_few source.material plan.size drawn (short fit.short) fit.small.drawn) sized)
    drew

-- ---- an upgrade

told_fits : (handed : Bool) (blob : List ℕ) → (handed ≡ true → length blob ≤ BLOB_BYTES) → Fits (record no_sizes { blob = BLOB_BYTES }) (Done (if handed then record no_fields { blob = Some blob } else no_fields))
told_fits true blob few = record { alias = tt; nonce = tt; out = tt; blob = few refl; list = tt; entries = tt }
told_fits false blob few = record { alias = tt; nonce = tt; out = tt; blob = tt; list = tt; entries = tt }

-- the blob that is handed back, or the new one, of a device whose root of trust has 32 bytes
module _ (device : DeviceSecrets) (policy : List PolicyRow) (part : Lasting) (caller : Caller) (key : Descriptor) (params : List ℕ) where
  abbrev Reached : Access
  Reached = access_by policy part caller key

  abbrev Given : List ℕ
  Given = blob_for Reached (key_in part Reached) key

  abbrev Read : Result Opened BlobFault
  Read = opened_for device (asked_in params) Given

  abbrev Call : KeyCallFacts
  Call = upgrade_call_facts policy Reached (key_in part Reached) caller key

  abbrev Walk : Ruling
  Walk = first_broken A (upgrade_key_rules key (upgrade_facts device Call (asked_in params) Given Read))

  upgraded_fits : (drawn : List ℕ) → length device.root ≡ 32 → length drawn ≡ size_of (wanted_by_upgrade (upgrade_in device policy part caller key params))
      → Fits (record no_sizes { blob = BLOB_BYTES }) (upgraded_with device key drawn (upgrade_in device policy part caller key params))
  upgraded_fits drawn long drew = by_ruling Walk refl (is_no_older device.os device.patch (list_opened Read)) drew where
    by_ruling : (ruling : Ruling) → Walk ≡ ruling → (older : Bool) → length drawn ≡ size_of (wanted_by_upgrade (where_all_hold ruling (if older then None else Some (upgraded device (asked_in params) Read))))
        → Fits (record no_sizes { blob = BLOB_BYTES }) (upgraded_with device key drawn (where_all_hold ruling (if older then None else Some (upgraded device (asked_in params) Read))))
    by_ruling (Err (rule, code)) e older drew = tt
    by_ruling (Ok done) e true drew =
        let fits = upgrade_fits device Call key (asked_in params) Given Read (ap is_ok e) in
        let lies = lies_where policy part caller key (found_held key (upgrade_facts device Call (asked_in params) Given Read) (ap is_ok e)) in
        told_fits (key.domain == domain_blob) (unwrap_or key.blob []) (λ handed. subst (λ blob. length blob ≤ BLOB_BYTES) (lies.given handed) fits.handed)
    by_ruling (Ok done) e false drew =
        let fits = upgrade_fits device Call key (asked_in params) Given Read (ap is_ok e) in
        told_fits (key.domain == domain_blob) (blob_of device.seal drawn (upgraded device (asked_in params) Read))
        (λ handed. omega (arith, blob_few device.seal drawn (upgraded device (asked_in params) Read) drew long, fits.sized))

-- ---- a begin

wanted_few : (asked key : List Param) → nonce_wanted asked key ≤ 16
unfolding nonce_wanted
wanted_few asked key = by_tests _ (is_gcm asked key) where
  by_tests : (wants short : Bool) → (if wants then (if short then 12 else 16) else 0) ≤ 16
  by_tests true true = omega arith
  by_tests true false = omega arith
  by_tests false short = omega arith

nonce_fits : (n : ℕ) (drawn : List ℕ) → n ≤ 16 → IsWithin NONCE (if n == 0 then None else Some (take n drawn))
nonce_fits n drawn few = by_zero (n == 0) where
  by_zero : (b : Bool) → IsWithin NONCE (if b then None else Some (take n drawn))
  by_zero true = tt
  by_zero false = omega (arith, take_few n drawn, few)

-- ---- an entry and a listing

found_short : (part : Lasting) (access : Access) (key : KeyRecord) → AreShort part → key_in part access ≡ Some key → IsShort key
found_short part (Found row bits) key short e = each_found IsShort (has_id row.id) part.keys key short e
found_short part (Blob bits) key short e = cc
found_short part Nothing key short e = cc

entry_fits : (key : Descriptor) (found : Option KeyRecord) → ((k : KeyRecord) → found ≡ Some k → IsShort k) → Fits (sizes_of (GetKeyEntry key) 0) (key_entry found)
entry_fits key None short = record { alias = tt; nonce = tt; out = tt; blob = tt; list = tt; entries = tt }
entry_fits key (Some k) short = record { alias = (short k refl).0; nonce = tt; out = tt; blob = tt; list = (short k refl).1; entries = tt }

lesser_short : (key : KeyRecord) (other : Option KeyRecord) → IsShort key → IfSome other IsShort → IsShort (lesser key other)
lesser_short key None short others = short
lesser_short key (Some other) short others = by_order (is_gt (alias_cmp key.alias other.alias)) where
  by_order : (b : Bool) → IsShort (if b then other else key)
  by_order true = others
  by_order false = short

least_short : (keys : List KeyRecord) → Each IsShort keys → IfSome (least keys) IsShort
least_short [] short = tt
least_short (key ∷ keys) short = lesser_short key (least keys) short.0 (least_short keys short.1)

next_short : (part : Lasting) (domain nspace : ℕ) (past : Option (List ℕ)) → AreShort part → IfSome (next_key part domain nspace past) IsShort
next_short part domain nspace past short = least_short (filter (is_listed domain nspace past) part.keys) (each_left IsShort (is_listed domain nspace past) part.keys short)

abbrev HasShortAlias : List ℕ × ℕ → Type 0
HasShortAlias entry = length entry.0 ≤ ALIAS_BYTES

abbrev IsFew : ℕ → List (List ℕ × ℕ) → Type 0
IsFew most entries = (length entries ≤ most) × All HasShortAlias entries

more_few : (most : ℕ) (part : Lasting) (domain nspace : ℕ) (past : Option (List ℕ)) (found : Option KeyRecord) → next_key part domain nspace past ≡ found → IfSome found IsShort
    → ((alias : List ℕ) → IsFew most (listed_from most part domain nspace (Some alias))) → IsFew (suc most) (listed_from (suc most) part domain nspace past)
unfolding listed_from
more_few most part domain nspace past None next own rest = rw next (omega arith, All-nil HasShortAlias)
more_few most part domain nspace past (Some key) next own rest =
    rw next (omega (arith, (rest key.alias).0), All-cons HasShortAlias (key.alias, key.id) (listed_from most part domain nspace (Some key.alias)) own.0 (rest key.alias).1)

none_few : (part : Lasting) (domain nspace : ℕ) (past : Option (List ℕ)) → IsFew 0 (listed_from 0 part domain nspace past)
unfolding listed_from
none_few part domain nspace past = (omega arith, All-nil HasShortAlias)

listed_few : (most : ℕ) (part : Lasting) (domain nspace : ℕ) (past : Option (List ℕ)) → AreShort part → IsFew most (listed_from most part domain nspace past)
listed_few zero part domain nspace past short = none_few part domain nspace past
listed_few (suc most) part domain nspace past short =
    more_few most part domain nspace past (next_key part domain nspace past) refl (next_short part domain nspace past short) (λ alias. listed_few most part domain nspace (Some alias) short)

-- ---- a leave

given_fits : (ticket out : ℕ) (work : Work) (result : Result (List ℕ) Code) → IfOk result (λ bytes. length bytes ≤ out) → Fits (sizes_of (Leave ticket) out) (given_or work result)
given_fits ticket out (Aad input) (Ok bytes) few = record { alias = tt; nonce = tt; out = tt; blob = tt; list = tt; entries = tt }
given_fits ticket out (Text input) (Ok bytes) few = record { alias = tt; nonce = tt; out = few; blob = tt; list = tt; entries = tt }
given_fits ticket out (Last input signature) (Ok bytes) few = record { alias = tt; nonce = tt; out = few; blob = tt; list = tt; entries = tt }
given_fits ticket out work (Err code) few = tt

leave_fits : (setup : Setup) (past : History) (ticket out : ℕ) (entered : Option Entered) → IfOk (output_out setup past entered) (λ bytes. length bytes ≤ out) → Fits (sizes_of (Leave ticket) out) (leaving setup past entered)
leave_fits setup past ticket out None few = tt
leave_fits setup past ticket out (Some entered) few = given_fits ticket out entered.work (output_of (operation_at setup past entered.op) entered.work) few

-- ---- the other calls

granted_fits : (part : Lasting) (key : Option ℕ) (uid : ℕ) → Fits no_sizes (granted_in part key uid)
granted_fits part None uid = record { alias = tt; nonce = tt; out = tt; blob = tt; list = tt; entries = tt }
granted_fits part (Some key) uid = if_fits no_sizes (has_grant_place part key uid) (Done (record no_fields { grant = Some (grant_number part key uid) })) (Stopped StoreFull) (record { alias = tt; nonce = tt; out = tt; blob = tt; list = tt; entries = tt }) tt

accepted_fits : (tokens : List AuthToken) (token : AuthToken) → Fits no_sizes (accepted_in tokens token)
accepted_fits tokens token = if_fits no_sizes (length (other_triples token tokens) == MOST_TRIPLES) (Stopped TokensFull) (Done no_fields) tt (record { alias = tt; nonce = tt; out = tt; blob = tt; list = tt; entries = tt })

-- each answer by the rules
rules_fit : (act : Act) (setup : Setup) (past : History) (caller : Caller) (drawn : List ℕ) (out : ℕ) → AreShort (kept setup past) → length (root_of setup past) ≡ 32
    → length drawn ≡ size_of (if (fixed_for act).draws then wanted_by_rules act setup past caller else no_pieces) → HasOutRoom setup past act out → Fits (sizes_of act out) (answer_by_rules act setup past caller drawn)
rules_fit (GenerateKey key params) setup past caller drawn out short long drew room = making_fits setup past caller key params generated drawn long (λ few. tt) drew
rules_fit (ImportKey key params format material) setup past caller drawn out short long drew room =
    making_fits setup past caller key params (imported format material) drawn long (λ few. few) drew
rules_fit (ImportWrappedKey key params wrapping wrapped unwrapping) setup past caller drawn out short long drew room =
    making_fits setup past caller key params (unwrapped_in (device_at setup past) setup.policy (kept setup past) caller wrapping wrapped unwrapping) drawn long
    (unwrapped_short (device_at setup past) setup.policy (kept setup past) caller wrapping wrapped unwrapping) drew
rules_fit (CreateOperation key params forced) setup past caller drawn out short long drew room =
    broken_fits (record no_sizes { nonce = NONCE }) (begin_table.answer (begin_facts setup past caller key params forced)) (begun_with (count_of is_begin past + 1) (challenge_of (begin_facts setup past caller key params forced) drawn) (drawn_nonce (begin_facts setup past caller key params forced) drawn) (pruned_for setup past (owner_of caller) forced))
    (record { alias = tt; nonce = nonce_fits (nonce_size (begin_facts setup past caller key params forced)) drawn (wanted_few (asked_of (begin_facts setup past caller key params forced)) (key_of (begin_facts setup past caller key params forced))); out = tt; blob = tt; list = tt; entries = tt })
rules_fit (EnterAad op input) setup past caller drawn out short long drew room =
    broken_fits no_sizes (step_table.answer (step_facts setup past caller op (brought_by (Aad input)))) (Done (record no_fields { ticket = Some (next_ticket past) })) (record { alias = tt; nonce = tt; out = tt; blob = tt; list = tt; entries = tt })
rules_fit (EnterUpdate op input) setup past caller drawn out short long drew room =
    broken_fits no_sizes (step_table.answer (step_facts setup past caller op (brought_by (Text input)))) (Done (record no_fields { ticket = Some (next_ticket past) })) (record { alias = tt; nonce = tt; out = tt; blob = tt; list = tt; entries = tt })
rules_fit (EnterFinish op input signature) setup past caller drawn out short long drew room =
    broken_fits no_sizes (step_table.answer (step_facts setup past caller op (brought_by (Last input signature)))) (Done (record no_fields { ticket = Some (next_ticket past) })) (record { alias = tt; nonce = tt; out = tt; blob = tt; list = tt; entries = tt })
rules_fit (Abort op) setup past caller drawn out short long drew room =
    broken_fits no_sizes (step_table.answer (step_facts setup past caller op brought_by_abort)) (Done no_fields) (record { alias = tt; nonce = tt; out = tt; blob = tt; list = tt; entries = tt })
rules_fit Disconnect setup past caller drawn out short long drew room =
    broken_fits no_sizes (disconnect_ruling caller (has_busy setup past caller.client)) (Done no_fields) (record { alias = tt; nonce = tt; out = tt; blob = tt; list = tt; entries = tt })
rules_fit (GetKeyEntry key) setup past caller drawn out short long drew room =
    broken_fits (sizes_of (GetKeyEntry key) 0) (get_key_entry_ruling setup.policy (kept setup past) caller key) (key_entry (key_found setup past caller key))
    (entry_fits key (key_found setup past caller key) (λ k e. found_short (kept setup past) (access_at setup past caller key) k short e))
rules_fit (DeleteKey key) setup past caller drawn out short long drew room =
    broken_fits no_sizes (delete_key_ruling setup.policy (kept setup past) caller key) (Done no_fields) (record { alias = tt; nonce = tt; out = tt; blob = tt; list = tt; entries = tt })
rules_fit (Grant key uid bits) setup past caller drawn out short long drew room =
    broken_fits no_sizes (grant_ruling setup.policy (kept setup past) caller key bits) (granted_in (kept setup past) (id_by setup.policy (kept setup past) caller key) uid) (granted_fits (kept setup past) (id_by setup.policy (kept setup past) caller key) uid)
rules_fit (Ungrant key uid) setup past caller drawn out short long drew room =
    broken_fits no_sizes (ungrant_ruling setup.policy (kept setup past) caller key uid) (Done no_fields) (record { alias = tt; nonce = tt; out = tt; blob = tt; list = tt; entries = tt })
rules_fit (GetNumberOfEntries domain nspace) setup past caller drawn out short long drew room =
    broken_fits no_sizes (listing_ruling setup.policy caller domain nspace) (counted_in (kept setup past) (owner_for (owner_of caller) domain nspace)) (record { alias = tt; nonce = tt; out = tt; blob = tt; list = tt; entries = tt })
rules_fit (ListEntriesBatched domain nspace behind) setup past caller drawn out short long drew room =
    broken_fits (sizes_of (ListEntriesBatched domain nspace behind) 0) (listing_ruling setup.policy caller domain nspace) (listed_in (kept setup past) (owner_for (owner_of caller) domain nspace) behind)
    (record { alias = tt; nonce = tt; out = tt; blob = tt; list = tt; entries = listed_few LISTED (kept setup past) (owner_for (owner_of caller) domain nspace).0 (owner_for (owner_of caller) domain nspace).1 behind short })
rules_fit (ClearNamespace domain nspace) setup past caller drawn out short long drew room =
    broken_fits no_sizes (clear_namespace_ruling caller domain nspace) (Done no_fields) (record { alias = tt; nonce = tt; out = tt; blob = tt; list = tt; entries = tt })
rules_fit (UserRemoved user) setup past caller drawn out short long drew room =
    broken_fits no_sizes (user_call_ruling caller user) (Done no_fields) (record { alias = tt; nonce = tt; out = tt; blob = tt; list = tt; entries = tt })
rules_fit (AddAuthToken challenge user authenticator kind time mac) setup past caller drawn out short long drew room =
    broken_fits no_sizes (add_auth_token_ruling setup.device.token caller (token_of challenge user authenticator kind time mac)) (accepted_in (last_tokens setup past) (token_of challenge user authenticator kind time mac)) (accepted_fits (last_tokens setup past) (token_of challenge user authenticator kind time mac))
rules_fit (DeviceLocked user) setup past caller drawn out short long drew room =
    broken_fits no_sizes (user_call_ruling caller user) (Done no_fields) (record { alias = tt; nonce = tt; out = tt; blob = tt; list = tt; entries = tt })
rules_fit (DeviceUnlocked user) setup past caller drawn out short long drew room =
    broken_fits no_sizes (user_call_ruling caller user) (Done no_fields) (record { alias = tt; nonce = tt; out = tt; blob = tt; list = tt; entries = tt })
rules_fit EarlyBootEnded setup past caller drawn out short long drew room =
    broken_fits no_sizes (early_boot_ended_ruling caller) (Done no_fields) (record { alias = tt; nonce = tt; out = tt; blob = tt; list = tt; entries = tt })
rules_fit (UpgradeKey key params) setup past caller drawn out short long drew room =
    upgraded_fits (device_at setup past) setup.policy (kept setup past) caller key params drawn long drew
rules_fit (Leave ticket) setup past caller drawn out short long drew room = leave_fits setup past ticket out (ticket_at past ticket) room
rules_fit _ setup past caller drawn out short long drew room = record { alias = tt; nonce = tt; out = tt; blob = tt; list = tt; entries = tt }

-- ---- each entry, and each step

follow_fits : (setup : Setup) (past : History) (event : Event) (drawn : List ℕ) (reply : Reply) (out : ℕ) → AreShort (kept setup past) → length (root_of setup past) ≡ 32 → HasOutRoom setup past event.act out
    → MayFollow setup past event drawn reply → Fits (sizes_of event.act out) reply
follow_fits setup past event drawn reply out short long room (Answered is) =
    subst (Fits (sizes_of event.act out)) (sym is.is_answer)
    (rules_fit event.act setup past (caller_of past event) drawn out short long is.drew room)
follow_fits setup past event drawn reply out short long room (WithoutMemory is) = subst (Fits (sizes_of event.act out)) (sym is.is_want) tt
follow_fits setup past event drawn reply out short long room (WithoutEntropy is) = subst (Fits (sizes_of event.act out)) (sym is.is_fault) tt
follow_fits setup past event drawn reply out short long room (Faulted is) = subst (Fits (sizes_of event.act out)) (sym is.is_fault) tt
follow_fits setup past event drawn reply out short long room (NotSettled is) = subst (Fits (sizes_of event.act out)) (sym is.is_fault) tt
follow_fits setup past event drawn reply out short long room (NotRestarted code is) = subst (Fits (sizes_of event.act out)) (sym is.is_refusal) tt

-- the work that is out puts out the same after a settling
same_room : (setup : Setup) (past : History) (settled : Settled) (act : Act) (out : ℕ) → HasOutRoom setup past act out → HasOutRoom setup (Settling settled ∷ past) act out
same_room setup past settled (Leave ticket) out room = same_output (ticket_at past ticket) room where
  same_output : (entered : Option Entered) → IfOk (output_out setup past entered) (λ bytes. length bytes ≤ out) → IfOk (output_out setup (Settling settled ∷ past) entered) (λ bytes. length bytes ≤ out)
  same_output None few = few
  same_output (Some entered) few = few
same_room setup past settled _ out room = tt

pub step_fits : (setup : Setup) (past : History) (settled : Option Settled) (event : Event) (drawn : List ℕ) (reply : Reply) (out : ℕ) → Legal setup past → IsStorable setup.start → length (device_at setup past).root ≡ 32
    → HasOutRoom setup past event.act out → MayStep setup past settled event drawn reply → Fits (sizes_of event.act out) reply
step_fits setup past None event drawn reply out legal storable long room may = follow_fits setup past event drawn reply out (kept_short setup None past legal storable None) long room may.follows
step_fits setup past (Some settled) event drawn reply out legal storable long room may =
    follow_fits setup (Settling settled ∷ past) event drawn reply out (kept_short setup None past legal storable (Some settled)) long (same_room setup past settled event.act out room) may.follows
