-- A new key: its answer, and the tables after it.
use Rattle.std.proofs.Common.{◌≡◌, ℕ, ◌+◌, ◌<◌, ◌≤◌, Bool, true, false, ◌&&◌, ◌||◌, IsTrue, inr, List, [], ◌∷◌, length, Option, Some, None, Result, Ok, Err, if◌then◌else◌, ◌==◌, ◌^◌, arith, refl, sym, ap, ◌∙◌, subst}
use Rattle.std.specs.Option.{option_or}
use Rattle.std.specs.Prelude.{is_none, unwrap_or}
use Rattle.std.proofs.lemmas.Bool.{and_parts, eq-eqb, le-leb, lt-ltb}
use Rattle.tags.specs.declared.code.Code.{Code}
use Rattle.tags.specs.declared.code.Code.TheVariants.{EntropyFault, MemoryAllocationFailed, StoreFull}
use Rattle.tags.specs.declared.descriptor.Descriptor.{Descriptor}
use Rattle.tags.specs.declared.policy.PolicyRow.{PolicyRow}
use Rattle.tags.specs.declared.secrets.DeviceSecrets.{DeviceSecrets}
use Rattle.tag_lists.specs.Spelling.{spelling}
use Rattle.key_domains.specs.Domains.{domain_blob}
use Rattle.tags.specs.Descriptor.{has_alias, has_alias_in, is_alias}
use Rattle.tags.specs.declared.rule.Rule.{Rule}
use Rattle.tags.specs.declared.rule.RuleTable.TheVariants.{K}
use Rattle.tags.specs.Table.{Ruling, first_broken, where_all_hold}
use Rattle.ks_outside.specs.declared.disk.Disk.{Ghosts}
use Rattle.journal_records.specs.declared.change.Change.{Change}
use Rattle.journal_records.specs.LastingPart.{Lasting}
use Rattle.journal_records.specs.Needs.{has_place_for, is_number_left, is_owner}
use Rattle.key_database.specs.declared.database.KeyDatabase.{KeyDatabase}
use Rattle.lasting_table.specs.TableView.{HasRoomForKey}
use Rattle.key_database.specs.Stands.{SameStore, lasting, table_of}
use Rattle.key_rules.specs.declared.facts.NewFacts.{NewFacts}
use Rattle.key_rules.specs.declared.plan.KeyPlan.{KeyPlan}
use Rattle.key_rules.specs.Creation.{IsFit, new_key, plan_of}
use Rattle.key_domains.specs.Forms.{is_by_alias}
use Rattle.key_rules.specs.Rules.{names_new_key, names_place}
use Rattle.key_rules.specs.Table.{rules_of}
use Rattle.keymint_ops.specs.declared.creation.NewKey.{NewKey}
use Rattle.keymint_ops.specs.Creation.{planned, spelled, where_planned}
use Rattle.rule_model.specs.declared.entry.Entry.TheVariants.{Acted}
use Rattle.rule_model.specs.declared.facts.Caller.{Caller}
use Rattle.rule_model.specs.declared.reply.Reply.{Reply}
use Rattle.rule_model.specs.declared.reply.Reply.TheVariants.{Done, Broken, Stopped}
use Rattle.rule_model.specs.declared.event.Event.{Event}
use Rattle.rule_model.specs.declared.reply.Fields.{Fields}
use Rattle.rule_model.specs.Access.{owner_of}
use Rattle.rule_model.specs.Acts.{is_begin, is_connect, is_enter, is_restart}
use Rattle.rule_model.specs.Answer.{answer, answer_by_rules, made_in}
use Rattle.rule_model.specs.Replies.{broken_or, no_fields}
use Rattle.rule_model.specs.Blobs.{device_at, root_given}
use Rattle.rule_model.specs.Changes.{alias_of, change_of, owner_for}
use Rattle.rule_model.specs.Boot.{has_early_ended}
use Rattle.rule_model.specs.Clients.{caller_of}
use Rattle.rule_model.specs.Drawn.{size_of, wanted, wanted_by_key, wanted_by_rules}
use Rattle.rule_model.specs.Entries.{History, is_done}
use Rattle.rule_model.specs.Jobs.{HasJob}
use Rattle.rule_model.specs.Kept.{kept, open_of, operation_change}
use Rattle.rule_model.specs.Legal.{MayFollow, is_ready, Answered, WithoutEntropy, WithoutMemory}
use Rattle.rule_model.specs.NewFacts.{new_facts}
use Rattle.rule_model.specs.declared.entry_change.OperationChange.TheVariants.{SameOperations}
use Rattle.rule_model.specs.Places.{has_key_place}
use Rattle.rule_model.specs.Settling.{is_disk_fault, is_unsettled}
use Rattle.rule_model.specs.Stored.{change_by}
use Rattle.rule_model.proofs.Kept.{no_fault_unfaulted}
use Rattle.rule_model.specs.Setup.{Setup}
use Rattle.rule_model.specs.declared.entry_change.TicketChange.TheVariants.{SameTickets as NoTickets}
use Rattle.rule_model.specs.Tickets.{ticket_change}
use Rattle.rule_model.proofs.Boot.{moves_boot, same_boot as same_boot_after}
use Rattle.rule_model.proofs.Clients.{moves_clients, same_clients}
use Rattle.rule_model.proofs.Operations.{moves_operations, same_operations}
use Rattle.rule_model.proofs.Tickets.{moves_tickets, same_tickets}
use Rattle.call_answers.specs.declared.key_sources.KeySource.{KeySource}
use Rattle.call_answers.specs.declared.key_sources.KeySource.TheVariants.{Generated, Imported, Wrapped}
use Rattle.call_answers.specs.KeySources.{making, source_in}
use Rattle.keystore_core.specs.declared.tables.Tables.{Tables}
use Rattle.call_answers.specs.Creating.{CanKeep, blob_made, keeping, kept_fields}
use Rattle.keystore_core.specs.Keys.{AreSettled}
use Rattle.keystore_core.specs.Writing.{IsWrittenIf, StoreGoes, use_by}
use Rattle.keystore_core.proofs.Written.{goes_from, told_follows, told_job, told_keys}
use Rattle.keystore_core.specs.Tables.{AnswersAfter, IsCaller, SameTables, TablesStand, event_by}
use Rattle.live_tables.specs.Device.{early_in}
use Rattle.keystore_core.proofs.Booted.{boot_stays}
use Rattle.keystore_core.proofs.Ready.{ready_settled}
use Rattle.keystore_core.proofs.Opened.{stays_same}
use Rattle.keystore_core.proofs.Standing.{called, clients_stay, denied_tables, operations_stay, quiet, same_tables, slots_stay, tickets_stay}
use Rattle.tags.specs.declared.limits.TheConstants.{BLOB_BYTES, KEPT_LIST_BYTES}

abbrev facts_of : DeviceSecrets → List PolicyRow → Lasting → Caller → Descriptor → List ℕ → KeySource → Bool → NewFacts
facts_of device policy part caller key params source early_ended = new_facts device policy caller key params (source_in device policy part caller source) early_ended

-- the facts of a history, and the material that comes in
abbrev facts_at : Setup → History → Caller → Descriptor → List ℕ → KeySource → NewFacts
facts_at setup past caller key params source = facts_of (device_at setup past) setup.policy (kept setup past) caller key params source (has_early_ended setup past)

abbrev material_at : Setup → History → Caller → KeySource → Option (List ℕ)
material_at setup past caller source = (source_in (device_at setup past) setup.policy (kept setup past) caller source).material

making_answer : (setup : Setup) (past : History) (caller : Caller) (key : Descriptor) (params : List ℕ) (source : KeySource) (drawn : List ℕ)
    → answer_by_rules (making key params source) setup past caller drawn ≡ broken_or (new_key (facts_at setup past caller key params source))
    (made_in (kept setup past) caller key (blob_made (device_at setup past) (plan_of (facts_at setup past caller key params source)) (material_at setup past caller source) drawn))
making_answer setup past caller key params Generated drawn = refl
making_answer setup past caller key params (Imported format material) drawn = refl
making_answer setup past caller key params (Wrapped wrapping wrapped unwrapping) drawn = refl

making_wanted : (setup : Setup) (past : History) (caller : Caller) (key : Descriptor) (params : List ℕ) (source : KeySource)
    → wanted_by_rules (making key params source) setup past caller ≡ wanted_by_key (new_key (facts_at setup past caller key params source)) (has_key_place (kept setup past) (owner_of caller) key)
making_wanted setup past caller key params Generated = refl
making_wanted setup past caller key params (Imported format material) = refl
making_wanted setup past caller key params (Wrapped wrapping wrapped unwrapping) = refl

moves_none : (key : Descriptor) (params : List ℕ) (source : KeySource) → moves_clients (making key params source) ≡ false
moves_none key params Generated = refl
moves_none key params (Imported format material) = refl
moves_none key params (Wrapped wrapping wrapped unwrapping) = refl

connects_none : (key : Descriptor) (params : List ℕ) (source : KeySource) → is_connect (making key params source) ≡ false
connects_none key params Generated = refl
connects_none key params (Imported format material) = refl
connects_none key params (Wrapped wrapping wrapped unwrapping) = refl

begins_none : (key : Descriptor) (params : List ℕ) (source : KeySource) → is_begin (making key params source) ≡ false
begins_none key params Generated = refl
begins_none key params (Imported format material) = refl
begins_none key params (Wrapped wrapping wrapped unwrapping) = refl

enters_none : (key : Descriptor) (params : List ℕ) (source : KeySource) → is_enter (making key params source) ≡ false
enters_none key params Generated = refl
enters_none key params (Imported format material) = refl
enters_none key params (Wrapped wrapping wrapped unwrapping) = refl

no_boot : (key : Descriptor) (params : List ℕ) (source : KeySource) → moves_boot (making key params source) ≡ false
no_boot key params Generated = refl
no_boot key params (Imported format material) = refl
no_boot key params (Wrapped wrapping wrapped unwrapping) = refl

no_tickets : (key : Descriptor) (params : List ℕ) (source : KeySource) → moves_tickets (making key params source) ≡ false
no_tickets key params Generated = refl
no_tickets key params (Imported format material) = refl
no_tickets key params (Wrapped wrapping wrapped unwrapping) = refl

-- a broken rule of the plan is one of the table
broken_rule : (found : Result KeyPlan (Rule × Code)) (broken : Rule × Code) → where_planned found ≡ Err broken → found ≡ Err broken
broken_rule (Ok plan) broken e = cc
broken_rule (Err own) broken e = let same : own ≡ broken = cc in ap Err same

new_plan : (found : Result KeyPlan (Rule × Code)) (plan : NewKey) → where_planned found ≡ Ok plan → (own : KeyPlan) × (found ≡ Ok own) × (plan ≡ spelled own)
new_plan (Ok own) plan e = let same : plan ≡ spelled own = cc in (own, refl, same)
new_plan (Err broken) plan e = cc

held_plan : (ruling : Ruling) (facts : NewFacts) (own : KeyPlan) → where_all_hold ruling (plan_of facts) ≡ Ok own → own ≡ plan_of facts
held_plan (Ok done) facts own e = cc
held_plan (Err broken) facts own e = cc

-- the plan of a call that the rules let through
pub record IsPlanned (facts : NewFacts) (plan : NewKey) : Type 0 where
  pub holds : new_key facts ≡ Ok (plan_of facts)
  pub plan_is : plan ≡ spelled (plan_of facts)

pub is_planned : (facts : NewFacts) (plan : NewKey) → planned facts ≡ Ok plan → IsPlanned facts plan
unfolding planned
is_planned facts plan e =
    let found = new_plan (new_key facts) plan e in
    let own : found.0 ≡ plan_of facts = held_plan (first_broken K (rules_of facts)) facts found.0 found.1 in
    record { holds = found.1 ∙ ap Ok own; plan_is = found.2 ∙ ap spelled own }

pub is_broken : (facts : NewFacts) (rule : Rule) (code : Code) → planned facts ≡ Err (rule, code) → new_key facts ≡ Err (rule, code)
unfolding planned
is_broken facts rule code e = broken_rule (new_key facts) (rule, code) e

none_moves : (key : Descriptor) (params : List ℕ) (source : KeySource) → moves_operations (making key params source) ≡ false
none_moves key params Generated = refl
none_moves key params (Imported format material) = refl
none_moves key params (Wrapped wrapping wrapped unwrapping) = refl

-- the owner of a new key is one
owned : (uid domain nspace : ℕ) → uid < 2 ^ 32 → is_owner (owner_for uid domain nspace).0 (owner_for uid domain nspace).1 ≡ true
owned uid domain nspace small = by_domain (domain == 2) where
  by_domain : (namespace : Bool) → is_owner (if◌then◌else◌ {A = ℕ × ℕ} namespace (2, nspace) (0, uid)).0 (if◌then◌else◌ {A = ℕ × ℕ} namespace (2, nspace) (0, uid)).1 ≡ true
  by_domain true = refl
  by_domain false = lt-ltb uid (2 ^ 32) small

-- a descriptor that may name a new key has an alias, but in BLOB
not_or : (a b : Bool) → (a || b) ≡ true → b ≡ false → a ≡ true
not_or true b e none = refl
not_or false b e none = cc

alias_named : (key : Descriptor) → names_new_key key ≡ true → (key.domain == domain_blob) ≡ false → is_alias (alias_of key) ≡ true
alias_named key e stored =
    by_alias key.alias
    (and_parts (is_by_alias key.domain) (has_alias key)
    (not_or (is_by_alias key.domain && has_alias key) (key.domain == domain_blob) (and_parts (names_place key) (is_none key.blob) e).0 stored)).1 where
      by_alias : (alias : Option (List ℕ)) → has_alias_in alias ≡ true → is_alias (unwrap_or alias []) ≡ true
      by_alias None e = cc
      by_alias (Some alias) e = e

or_left : (a b : Bool) → (a || b) ≡ true → a ≡ false → b ≡ true
or_left true b e none = cc
or_left false b e none = e

-- what is made may be made: its need is met, and there is room for it
pub may_keep : (device : DeviceSecrets) (policy : List PolicyRow) (part : Lasting) (caller : Caller) (key : Descriptor) (params : List ℕ) (source : KeySource) (early_ended : Bool) (held : KeyDatabase) (plan : KeyPlan) (blob list : List ℕ) (limit : ℕ) → HasRoomForKey (table_of held) → has_key_place (lasting held) (owner_of caller) key ≡ true → owner_of caller < 2 ^ 32
    → IsFit (facts_of device policy part caller key params source early_ended) plan → length blob ≤ BLOB_BYTES → length list ≤ KEPT_LIST_BYTES → CanKeep (table_of held) (owner_of caller) key blob list limit
may_keep device policy read caller key params source early_ended held plan blob list limit room place small fit few short = λ stored.
    let part : Lasting = lasting held in
    let owner : ℕ × ℕ = owner_for (owner_of caller) key.domain key.nspace in
    let placed = and_parts (is_number_left part.next_key) (has_place_for owner.0 owner.1 (alias_of key) part)
    (or_left (key.domain == domain_blob) (is_number_left part.next_key && has_place_for owner.0 owner.1 (alias_of key) part) place stored) in (
      rw (
        eq-eqb part.next_key part.next_key refl,
        placed.0,
        owned (owner_of caller) key.domain key.nspace small,
        alias_named key fit.named stored,
        le-leb (length blob) BLOB_BYTES few,
        le-leb (length list) KEPT_LIST_BYTES short,
        placed.1,
      ) refl,
      (λ e. room, λ e. cc),
    )

-- the material that comes in, over what the tables hold
abbrev material_in : Tables → Caller → KeySource → Option (List ℕ)
material_in tables caller source = (source_in tables.device tables.policy (lasting tables.keys) caller source).material

-- what is known of the store goes on by the change of a new key
planned_change : (tables : Tables) (caller : Caller) (key : Descriptor) (params : List ℕ) (source : KeySource) (early_ended : Bool) (plan : NewKey) (drawn : List ℕ)
    → IsPlanned (facts_of tables.device tables.policy (lasting tables.keys) caller key params source early_ended) plan
    → keeping (lasting tables.keys) (owner_of caller) key (blob_made tables.device plan.plan (material_in tables caller source) drawn) plan.list plan.plan.limit
    ≡ option_or (use_by tables (making key params source)) (change_of (making key params source) tables.device tables.policy (lasting tables.keys) [] caller drawn)
planned_change tables caller key params source early_ended plan drawn is =
    ap (λ (p : NewKey). keeping (lasting tables.keys) (owner_of caller) key (blob_made tables.device p.plan (material_in tables caller source) drawn) p.list p.plan.limit) is.plan_is
    ∙ by_source source where
      by_source : (source : KeySource)
          → keeping (lasting tables.keys) (owner_of caller) key
          (blob_made tables.device (plan_of (facts_of tables.device tables.policy (lasting tables.keys) caller key params source early_ended)) (material_in tables caller source) drawn)
          (spelling (plan_of (facts_of tables.device tables.policy (lasting tables.keys) caller key params source early_ended)).list)
          (plan_of (facts_of tables.device tables.policy (lasting tables.keys) caller key params source early_ended)).limit
          ≡ option_or (use_by tables (making key params source)) (change_of (making key params source) tables.device tables.policy (lasting tables.keys) [] caller drawn)
      by_source Generated = refl
      by_source (Imported format material) = refl
      by_source (Wrapped wrapping wrapped unwrapping) = refl

no_restart : (key : Descriptor) (params : List ℕ) (i : KeySource) → is_restart (making key params i) ≡ false
no_restart key params Generated = refl
no_restart key params (Imported format material) = refl
no_restart key params (Wrapped wrapping wrapped unwrapping) = refl

pub keeps_goes : {D : Type 0} (g : Ghosts D) (tables : Tables) (middle new : KeyDatabase) (disk later : D) (caller : Caller) (key : Descriptor) (params : List ℕ) (source : KeySource) (early_ended : Bool) (plan : NewKey) (drawn : List ℕ) (reply : Reply)
    → planned (facts_of tables.device tables.policy (lasting tables.keys) caller key params source early_ended) ≡ Ok plan → SameStore tables.keys middle
    → StoreGoes g middle new disk later false (keeping (lasting middle) (owner_of caller) key (blob_made tables.device plan.plan (material_in tables caller source) drawn) plan.list plan.plan.limit) reply
    → StoreGoes g tables.keys new disk later (is_restart (making key params source)) (option_or (use_by tables (making key params source)) (change_of (making key params source) tables.device tables.policy (lasting tables.keys) [] caller drawn)) reply
keeps_goes g tables middle new disk later caller key params source early_ended plan drawn reply e same goes =
    let is = is_planned (facts_of tables.device tables.policy (lasting tables.keys) caller key params source early_ended) plan e in
    let change : Option Change = keeping (lasting middle) (owner_of caller) key (blob_made tables.device plan.plan (material_in tables caller source) drawn) plan.list plan.plan.limit in
    let change_is : change ≡ option_or (use_by tables (making key params source)) (change_of (making key params source) tables.device tables.policy (lasting tables.keys) [] caller drawn) =
    ap (λ part. keeping part (owner_of caller) key (blob_made tables.device plan.plan (material_in tables caller source) drawn) plan.list plan.plan.limit) same.lasting_is
    ∙ planned_change tables caller key params source early_ended plan drawn is in
    subst (λ c. StoreGoes g tables.keys new disk later (is_restart (making key params source)) c reply) change_is
    (subst (λ r. StoreGoes g tables.keys new disk later r change reply) (sym (no_restart key params source)) (goes_from g tables.keys middle new disk later false change reply same goes))

module _ (setup : Setup) (past : History) (tables : Tables) (caller : Caller) (key : Descriptor) (params : List ℕ) (source : KeySource) (stands : TablesStand setup tables past) (is_caller : IsCaller tables caller) where
  abbrev Facts : NewFacts
  Facts = facts_at setup past caller key params source

  abbrev Material : Option (List ℕ)
  Material = material_at setup past caller source

  abbrev Making : Event
  Making = event_by caller (making key params source)

  abbrev HasPlace : Bool
  HasPlace = has_key_place (kept setup past) (owner_of caller) key

  same : caller ≡ caller_of past Making
  same = called past tables caller (making key params source) stands.clients is_caller

  none : (drawn : List ℕ) (reply : Reply) → operation_change setup past Making drawn reply ≡ SameOperations
  none drawn reply = same_operations setup past Making drawn reply (none_moves key params source)

  unticketed : (reply : Reply) → ticket_change Making reply ≡ NoTickets
  unticketed reply = same_tickets Making reply (no_tickets key params source)

  -- what the tables read is that of the history
  pub planned_as : (result : Result NewKey (Rule × Code)) → planned (facts_of tables.device tables.policy (lasting tables.keys) caller key params source (early_in tables.boot.device)) ≡ result → planned Facts ≡ result
  planned_as result e =
      ap (λ early. planned (facts_of (device_at setup past) setup.policy (kept setup past) caller key params source early)) (sym stands.boot.device.early)
      ∙ ap (λ policy. planned (facts_of (device_at setup past) policy (kept setup past) caller key params source (early_in tables.boot.device))) (sym stands.keys.policy_is)
      ∙ ap (λ part. planned (facts_of (device_at setup past) tables.policy part caller key params source (early_in tables.boot.device))) (sym stands.keys.lasting_is)
      ∙ ap (λ device. planned (facts_of device tables.policy (lasting tables.keys) caller key params source (early_in tables.boot.device))) (sym stands.keys.device_is) ∙ e

  -- the material that the tables give
  material_is : material_in tables caller source ≡ Material
  material_is =
      ap (λ device. (source_in device tables.policy (lasting tables.keys) caller source).material) stands.keys.device_is
      ∙ ap (λ policy. (source_in (device_at setup past) policy (lasting tables.keys) caller source).material) stands.keys.policy_is
      ∙ ap (λ part. (source_in (device_at setup past) setup.policy part caller source).material) stands.keys.lasting_is

  pub place_is : has_key_place (lasting tables.keys) (owner_of caller) key ≡ HasPlace
  place_is = ap (λ part. has_key_place part (owner_of caller) key) stands.keys.lasting_is

  built_is : (i : KeySource) (drawn : List ℕ) (reply : Reply) → reply ≡ answer_by_rules (making key params i) setup past (caller_of past (event_by caller (making key params i))) drawn
      → reply ≡ answer setup past (event_by caller (making key params i)) drawn
  built_is Generated drawn reply is = is
  built_is (Imported format material) drawn reply is = is
  built_is (Wrapped wrapping wrapped unwrapping) drawn reply is = is

  told_as : (drawn : List ℕ) (reply : Reply) → reply ≡ answer_by_rules (making key params source) setup past caller drawn → reply ≡ answer setup past Making drawn
  told_as drawn reply is = built_is source drawn reply (is ∙ ap (λ c. answer_by_rules (making key params source) setup past c drawn) same)

  drew_is : (i : KeySource) (drawn : List ℕ) → length drawn ≡ size_of (wanted_by_rules (making key params i) setup past (caller_of past (event_by caller (making key params i))))
      → length drawn ≡ size_of (wanted setup past (event_by caller (making key params i)))
  drew_is Generated drawn drew = drew
  drew_is (Imported format material) drawn drew = drew
  drew_is (Wrapped wrapping wrapped unwrapping) drawn drew = drew

  drew_as : (drawn : List ℕ) → length drawn ≡ size_of (wanted_by_rules (making key params source) setup past caller) → length drawn ≡ size_of (wanted setup past Making)
  drew_as drawn drew = drew_is source drawn (drew ∙ ap (λ c. size_of (wanted_by_rules (making key params source) setup past c)) same)

  -- an answer that admits nothing
  answered : (drawn : List ℕ) (reply : Reply) → is_done reply ≡ false → length drawn ≡ size_of (wanted_by_rules (making key params source) setup past caller)
      → reply ≡ answer_by_rules (making key params source) setup past caller drawn → IsTrue (is_ready past (making key params source)) → MayFollow setup past Making drawn reply
  answered drawn reply denied drew is ready =
      Answered (record {
        ready = ready;
        drew = drew_as drawn drew;
        is_answer = told_as drawn reply is;
      })

  undrawn_is : (i : KeySource) (drawn : List ℕ) → length drawn < size_of (wanted_by_rules (making key params i) setup past (caller_of past (event_by caller (making key params i))))
      → IsTrue (is_ready past (making key params i)) → MayFollow setup past (event_by caller (making key params i)) drawn (Stopped EntropyFault)
  undrawn_is Generated drawn few ready = WithoutEntropy (record { ready = ready_settled past (making key params Generated) refl ready; drew = few; is_fault = refl })
  undrawn_is (Imported format material) drawn few ready = WithoutEntropy (record { ready = ready_settled past (making key params (Imported format material)) refl ready; drew = few; is_fault = refl })
  undrawn_is (Wrapped wrapping wrapped unwrapping) drawn few ready = WithoutEntropy (record { ready = ready_settled past (making key params (Wrapped wrapping wrapped unwrapping)) refl ready; drew = few; is_fault = refl })

  -- the answer of a call that leaves all as it is
  unmade : (new : Tables) (drawn : List ℕ) (reply : Reply) → SameTables tables new → is_done reply ≡ false → is_disk_fault reply ≡ false → (IsTrue (is_ready past (making key params source)) → MayFollow setup past Making drawn reply)
      → HasJob setup (Acted Making drawn reply ∷ past) reply None → AnswersAfter setup past new Making (record { reply = reply; job = None; drawn = drawn })
  unmade new drawn reply still denied no_fault follows no_job = record {
    follows = follows;
    stands = denied_tables setup past Making drawn reply tables new stands still denied (no_fault_unfaulted (is_unsettled past) Making.act reply no_fault) (none drawn reply) (unticketed reply);
    has_job = no_job;
    stays = stays_same setup past Making drawn reply (none drawn reply);
  }

  wanted_is : (found : Result KeyPlan (Rule × Code)) (place : Bool) → new_key Facts ≡ found → HasPlace ≡ place
      → wanted_by_rules (making key params source) setup past caller ≡ wanted_by_key found place
  wanted_is found place e is = making_wanted setup past caller key params source ∙ ap (λ f. wanted_by_key f HasPlace) e ∙ ap (wanted_by_key found) is

  -- the blob of the key
  abbrev Blob : List ℕ → List ℕ
  Blob drawn = blob_made (device_at setup past) (plan_of Facts) Material drawn

  answer_is : (found : Result KeyPlan (Rule × Code)) (drawn : List ℕ) → new_key Facts ≡ found
      → answer_by_rules (making key params source) setup past caller drawn ≡ broken_or found (made_in (kept setup past) caller key (Blob drawn))
  answer_is found drawn e = making_answer setup past caller key params source drawn ∙ ap (λ f. broken_or f (made_in (kept setup past) caller key (Blob drawn))) e

  -- a broken rule
  pub refused : (rule : Rule) (code : Code) → planned Facts ≡ Err (rule, code)
      → AnswersAfter setup past tables Making (record { reply = Broken rule code; job = None; drawn = [] })
  refused rule code e =
      let broken = is_broken Facts rule code e in
      unmade tables [] (Broken rule code) (same_tables tables) refl refl
      (answered [] (Broken rule code) refl (sym (ap size_of (wanted_is (Err (rule, code)) HasPlace broken refl))) (sym (answer_is (Err (rule, code)) [] broken))) refl

  -- no place for one more key
  pub full : (plan : NewKey) → planned Facts ≡ Ok plan → HasPlace ≡ false → AnswersAfter setup past tables Making (record { reply = Stopped StoreFull; job = None; drawn = [] })
  full plan e no_place =
      let is = is_planned Facts plan e in
      unmade tables [] (Stopped StoreFull) (same_tables tables) refl refl
      (answered [] (Stopped StoreFull) refl (sym (ap size_of (wanted_is (Ok (plan_of Facts)) false is.holds no_place)))
      (sym (answer_is (Ok (plan_of Facts)) [] is.holds ∙ ap (λ p. if p then Done (kept_fields (kept setup past) key (Blob [])) else Stopped StoreFull) no_place))) refl

  planned_wanted : (plan : NewKey) → IsPlanned Facts plan → HasPlace ≡ true → size_of (wanted_by_rules (making key params source) setup past caller) ≡ plan.plan.size + 12
  planned_wanted plan is place =
      ap size_of (wanted_is (Ok (plan_of Facts)) true is.holds place) ∙ ap (λ (p : NewKey). p.plan.size + 12) (sym is.plan_is)

  -- a draw that failed
  pub without_entropy : (new : Tables) (plan : NewKey) (drawn : List ℕ) → planned Facts ≡ Ok plan → HasPlace ≡ true
      → SameTables tables new → length drawn < plan.plan.size + 12
      → AnswersAfter setup past new Making (record { reply = Stopped EntropyFault; job = None; drawn = drawn })
  without_entropy new plan drawn e place still few =
      let is = is_planned Facts plan e in
      unmade new drawn (Stopped EntropyFault) still refl refl
      (undrawn_is source drawn (subst (λ c. length drawn < size_of (wanted_by_rules (making key params source) setup past c)) same (subst (λ n. length drawn < n) (sym (planned_wanted plan is place)) few))) refl

  unkept_is : (i : KeySource) (drawn : List ℕ) → length drawn ≤ size_of (wanted_by_rules (making key params i) setup past (caller_of past (event_by caller (making key params i))))
      → IsTrue (is_ready past (making key params i)) → MayFollow setup past (event_by caller (making key params i)) drawn (Stopped MemoryAllocationFailed)
  unkept_is Generated drawn few ready = WithoutMemory (record { ready = inr (ready_settled past (making key params Generated) refl ready); drew = few; takes = refl; is_want = refl })
  unkept_is (Imported format material) drawn few ready = WithoutMemory (record { ready = inr (ready_settled past (making key params (Imported format material)) refl ready); drew = few; takes = refl; is_want = refl })
  unkept_is (Wrapped wrapping wrapped unwrapping) drawn few ready = WithoutMemory (record { ready = inr (ready_settled past (making key params (Wrapped wrapping wrapped unwrapping)) refl ready); drew = few; takes = refl; is_want = refl })

  -- want of memory for the blob
  pub unkept : (new : Tables) (plan : NewKey) (drawn : List ℕ) → planned Facts ≡ Ok plan → HasPlace ≡ true → SameTables tables new → length drawn ≡ plan.plan.size + 12
      → AnswersAfter setup past new Making (record { reply = Stopped MemoryAllocationFailed; job = None; drawn = drawn })
  unkept new plan drawn e place still long =
      let is = is_planned Facts plan e in
      unmade new drawn (Stopped MemoryAllocationFailed) still refl refl
      (unkept_is source drawn (subst (λ c. length drawn ≤ size_of (wanted_by_rules (making key params source) setup past c)) same (omega (arith, long, planned_wanted plan is place)))) refl

  -- the blob that was made is that of the history
  made_blob : (plan : NewKey) (drawn : List ℕ) → IsPlanned Facts plan → blob_made tables.device plan.plan (material_in tables caller source) drawn ≡ Blob drawn
  made_blob plan drawn is =
      ap (λ d. blob_made d plan.plan (material_in tables caller source) drawn) stands.keys.device_is
      ∙ ap (λ (p : NewKey). blob_made (device_at setup past) p.plan (material_in tables caller source) drawn) is.plan_is
      ∙ ap (λ material. blob_made (device_at setup past) (plan_of Facts) material drawn) material_is

  -- the change of an entry that makes a key
  made_change : (i : KeySource) (drawn : List ℕ)
      → change_of (making key params i) (device_at setup past) setup.policy (kept setup past) (open_of setup past) caller drawn
      ≡ keeping (kept setup past) (owner_of caller) key (blob_made (device_at setup past) (plan_of (facts_at setup past caller key params i)) (material_at setup past caller i) drawn)
      (spelling (plan_of (facts_at setup past caller key params i)).list) (plan_of (facts_at setup past caller key params i)).limit
  made_change Generated drawn = refl
  made_change (Imported format material) drawn = refl
  made_change (Wrapped wrapping wrapped unwrapping) drawn = refl

  restarts_none : (i : KeySource) → is_restart (making key params i) ≡ false
  restarts_none Generated = refl
  restarts_none (Imported format material) = refl
  restarts_none (Wrapped wrapping wrapped unwrapping) = refl

  roots_none : (i : KeySource) (before : List ℕ) → root_given (making key params i) before ≡ before
  roots_none Generated before = refl
  roots_none (Imported format material) before = refl
  roots_none (Wrapped wrapping wrapped unwrapping) before = refl

  no_ticket : (later : History) (handed : Bool) (blob : List ℕ) (number : ℕ)
      → HasJob setup later (Done (if handed then record no_fields { blob = Some blob } else record no_fields { key = Some number })) None
  no_ticket later true blob number = refl
  no_ticket later false blob number = refl

  -- the change of a key that is kept, by its plan and the drawn bytes
  abbrev Change_of : Lasting → NewKey → List ℕ → Option Change
  Change_of part plan drawn = keeping part (owner_of caller) key (blob_made tables.device plan.plan (material_in tables caller source) drawn) plan.list plan.plan.limit

  abbrev Fields_of : Lasting → NewKey → List ℕ → Fields
  Fields_of part plan drawn = kept_fields part key (blob_made tables.device plan.plan (material_in tables caller source) drawn)

  is_change : (plan : NewKey) (drawn : List ℕ) → IsPlanned Facts plan → change_by setup past Making drawn ≡ Change_of (kept setup past) plan drawn
  is_change plan drawn is =
      ap (λ c. change_of (making key params source) (device_at setup past) setup.policy (kept setup past) (open_of setup past) c drawn) (sym same)
      ∙ made_change source drawn
      ∙ ap (λ (p : NewKey). keeping (kept setup past) (owner_of caller) key (Blob drawn) p.list p.plan.limit) (sym is.plan_is)
      ∙ ap (λ b. keeping (kept setup past) (owner_of caller) key b plan.list plan.plan.limit) (sym (made_blob plan drawn is))

  ruled : (plan : NewKey) (drawn : List ℕ) → IsPlanned Facts plan → HasPlace ≡ true → Done (Fields_of (kept setup past) plan drawn) ≡ answer_by_rules (making key params source) setup past caller drawn
  ruled plan drawn is place =
      ap (λ b. Done (kept_fields (kept setup past) key b)) (made_blob plan drawn is)
      ∙ sym (answer_is (Ok (plan_of Facts)) drawn is.holds ∙ ap (λ p. if p then Done (kept_fields (kept setup past) key (Blob drawn)) else Stopped StoreFull) place)

  -- a key that is made
  pub made : (middle : Tables) (new : KeyDatabase) (plan : NewKey) (drawn : List ℕ) (reply : Reply) → planned Facts ≡ Ok plan → HasPlace ≡ true
      → length drawn ≡ plan.plan.size + 12 → SameTables tables middle → AreSettled tables
      → IsWrittenIf middle.keys new (Change_of (lasting middle.keys) plan drawn) (Fields_of (lasting middle.keys) plan drawn) reply
      → AnswersAfter setup past (record middle { keys = new }) Making (record { reply = reply; job = None; drawn = drawn })
  made middle new plan drawn reply e place long still settled written =
      let is = is_planned Facts plan e in
      let before : lasting middle.keys ≡ kept setup past = still.keys.store_is.lasting_is ∙ stands.keys.lasting_is in
      let change : Option Change = Change_of (lasting middle.keys) plan drawn in
      let fields : Fields = Fields_of (lasting middle.keys) plan drawn in
      let by : change_by setup past Making drawn ≡ change = is_change plan drawn is ∙ ap (λ part. Change_of part plan drawn) (sym before) in
      let rules : Done fields ≡ answer_by_rules (making key params source) setup past caller drawn = ap (λ part. Done (Fields_of part plan drawn)) before ∙ ruled plan drawn is place in
      record {
        follows = λ ready. told_follows setup past tables middle.keys new Making drawn fields stands.keys still.keys.store_is settled (restarts_none source) (roots_none source) change reply by
            (drew_as drawn (long ∙ sym (planned_wanted plan is place))) (sym (told_as drawn (Done fields) rules)) written;
        stands = record {
          clients = clients_stay setup past Making drawn reply tables.clients middle.clients stands.clients still.clients (same_clients Making reply (moves_none key params source)) (quiet is_connect past Making drawn reply (connects_none key params source));
          keys =
              let own = told_keys setup past tables middle.keys new Making drawn fields stands.keys still.keys.store_is settled (restarts_none source) (roots_none source) change reply by written in
              record { device_is = still.keys.device_is ∙ own.device_is; policy_is = still.keys.policy_is ∙ own.policy_is; lasting_is = own.lasting_is; settled_is = own.settled_is; waiting = own.waiting };
          operations = operations_stay setup past Making drawn reply tables.operations middle.operations stands.operations still.operations (none drawn reply) (quiet is_begin past Making drawn reply (begins_none key params source));
          slots = slots_stay setup past Making drawn reply tables.slots middle.slots stands.slots still.slots (none drawn reply);
          tickets = tickets_stay setup past Making drawn reply tables.tickets middle.tickets stands.tickets still.tickets (unticketed reply) (quiet is_enter past Making drawn reply (enters_none key params source)) (stays_same setup past Making drawn reply (none drawn reply));
          boot = boot_stays setup past Making drawn reply tables.boot middle.boot stands.boot still.boot (same_boot_after setup past Making reply (no_boot key params source));
        };
        has_job = told_job setup past tables middle.keys new Making drawn fields stands.keys still.keys.store_is settled (restarts_none source) (roots_none source) change reply by
            (no_ticket (Acted Making drawn (Done fields) ∷ past) (key.domain == domain_blob) (blob_made tables.device plan.plan (material_in tables caller source) drawn) (lasting middle.keys).next_key) written;
        stays = stays_same setup past Making drawn reply (none drawn reply);
      }
