-- The beginning of an operation: its answer, and the tables after it.
use Rattle.std.proofs.Common.{◌≡◌, ℕ, ◌+◌, ◌<◌, ◌≤◌, ◌==◌, ◌||◌, Bool, true, false, not, if◌then◌else◌, List, [], ◌∷◌, length, find, Option, Some, None, Result, Ok, Err, is_some, unwrap_or, refl, sym, ap, ◌∙◌, subst, arith, inl, inr, IsTrue}
use Rattle.std.specs.Prelude.{IfNone, IfSome, IsSome}
use Rattle.std.specs.Prelude.{take, drop}
use Rattle.std.proofs.Math.Bridge.{le_prop}
use Rattle.std.proofs.lemmas.Bool.{cases_Bool, eqb-true, ltb-true}
use Rattle.std.specs.Coded.{coded_bool}
use denote.Struct.Props.{≡_prop}
use mathlib.Core.Logic.{∥∥₁_elim}
use Rattle.std.proofs.lemmas.List.{length-drop}
use Rattle.byteorder.specs.Endian.{big_number}
use Rattle.tags.specs.declared.code.Code.{Code}
use Rattle.tags.specs.declared.code.Code.TheVariants.{EntropyFault, MemoryAllocationFailed}
use Rattle.tags.specs.declared.descriptor.Descriptor.{Descriptor}
use Rattle.tags.specs.declared.rule.Rule.{Rule}
use Rattle.use_rules.specs.declared.facts.BeginFacts.{BeginFacts}
use Rattle.use_rules.specs.Plans.{challenge_wanted, is_per_operation, nonce_given}
use Rattle.use_rules.specs.Table as begin_table
use Rattle.use_rules.specs.Table.{asked_of, key_of}
use Rattle.cipher_ops.specs.declared.job.Done.{Done as JobDone}
use Rattle.cipher_ops.specs.declared.state.CipherState.{CipherState}
use Rattle.keymint_ops.specs.declared.begin.Begin.{Begin}
use Rattle.keymint_ops.specs.declared.begin.BeginFault.{BeginFault}
use Rattle.keymint_ops.specs.declared.begin.BeginFault.TheVariants as Fault
use Rattle.keymint_ops.specs.Begin.{MayBegin, nonce_used}
use Rattle.rule_model.specs.declared.entry.Entry.TheVariants.{Acted}
use Rattle.journal_records.specs.declared.record.KeyRecord.{KeyRecord}
use Rattle.journal_records.specs.LastingPart.{Lasting}
use Rattle.tags.specs.declared.secrets.DeviceSecrets.{DeviceSecrets}
use Rattle.key_domains.specs.declared.access.Access.{Access}
use Rattle.tags.specs.declared.policy.PolicyRow.{PolicyRow}
use Rattle.rule_model.specs.declared.event.Act.{Act}
use Rattle.rule_model.specs.declared.event.Act.TheVariants.{CreateOperation}
use Rattle.rule_model.specs.declared.event.Event.{Event}
use Rattle.rule_model.specs.declared.facts.Caller.{Caller}
use Rattle.rule_model.specs.declared.facts.Conditions.{Conditions}
use Rattle.rule_model.specs.declared.reply.Reply.{Reply}
use Rattle.rule_model.specs.declared.reply.Reply.TheVariants.{Broken, Stopped}
use Rattle.rule_model.specs.Acts.{is_begin}
use Rattle.rule_model.specs.Answer.{answer_by_rules, drawn_nonce}
use Rattle.rule_model.specs.Replies.{broken_or, no_fields}
use Rattle.key_rules.specs.Asked.{asked}
use Rattle.tags.specs.declared.param.Param.{Param}
use Rattle.rule_model.specs.BeginFacts.{BeginKey, begin_key, facts_by}
use Rattle.rule_model.specs.Blobs.{device_at, fits_key, list_read}
use Rattle.rule_model.specs.Boot.{begins_after, begins_on, boot_change}
use Rattle.rule_model.specs.Clients.{caller_of}
use Rattle.rule_model.specs.Drawn.{size_of, wanted_by_begin, wanted_by_rules}
use Rattle.rule_model.specs.Entries.{History, count_of}
use Rattle.rule_model.specs.Access.{access_by, id_of, key_in, owner_of}
use Rattle.rule_model.specs.Kept.{access_at, begin_key_at, facts_of_begin, kept, key_found, open_of, operation_at, operation_change}
use Rattle.rule_model.specs.Legal.{MayFollow, is_ready, Answered, WithoutMemory, WithoutEntropy}
use Rattle.rule_model.specs.declared.operation.Open.{Open}
use Rattle.rule_model.specs.declared.entry_change.OperationChange.TheVariants.{Opens, SameOperations}
use Rattle.rule_model.specs.Operations.{as_begun, challenge_of, has_number, is_busy, nonce_of, nonce_size, operation_on, opens, step_of, without_pruned}
use Rattle.rule_model.proofs.Kept.{quiet_stored}
use Rattle.rule_model.specs.Setup.{Setup}
use Rattle.rule_model.specs.Slots.{begin_facts, conditions_on, facts_of_open, has_free, has_room, pruned_for}
use Rattle.rule_model.specs.Jobs.{Stays}
use Rattle.live_tables.specs.declared.operations.OperationRow.{OperationRow}
use Rattle.keystore_core.specs.declared.tables.Tables.{Tables}
use Rattle.operation_slots.specs.declared.operation.SlotOperation.{SlotOperation as Slot}
use Rattle.operation_slots.specs.Table as table
use Rattle.operation_slots.specs.Table.{IsLater, SlotTable, capacity_of, held, idle_operation, idle_value, operations_of}
use Rattle.pruning.specs.Facts as seen
use Rattle.pruning.specs.Victim.{OpenFacts, victim}
use Rattle.rule_model.specs.Answer.{begun_with}
use Rattle.live_tables.specs.Alike.{Alike, BothFound}
use Rattle.live_tables.specs.Begins.{begins_in}
use Rattle.live_tables.specs.Boot.{SameBoot, conditions_in}
use Rattle.live_tables.specs.Device.{early_in, unlocked_in}
use Rattle.live_tables.specs.Tokens.{token_key_in, tokens_in}
use Rattle.call_answers.specs.Beginning.{IsBeginKey, IsStart, Opens as OpensKey}
use Rattle.call_answers.specs.Beginning as answers
use Rattle.call_answers.specs.declared.begins.AdmittedBegin.{AdmittedBegin as Admitted}
use Rattle.call_answers.specs.declared.begins.BeginKey.{BeginKey as OwnKey}
use Rattle.keystore_core.specs.Beginning.{GivesAdmitted, IsAdmitted, IsNewRow, MakesWay, OpensOne}
use Rattle.key_database.specs.Stands.{lasting}
use Rattle.keystore_core.specs.Keys.{SameKeys}
use Rattle.live_tables.specs.Operations.{HasRoomForOperation, IsRow, has_row, most_operations, operations_given, rows_in}
use Rattle.keystore_core.specs.Slots.{IsKept, IsSlot}
use Rattle.keystore_core.specs.Tables.{AnswersAfter, IsAt, IsCaller, SameTables, TablesStand, event_by, row_at}
use Rattle.live_tables.proofs.Alike.{alike_filter, alike_images, alike_length, alike_more}
use Rattle.keystore_core.proofs.Booted.{begun_early, begun_tokens, begun_users, boot_after, boot_still, conditions_are, same_boot_twice}
use Rattle.keystore_core.proofs.KeyTable.{keys_stay, same_keys, same_keys_twice}
use Rattle.keystore_core.proofs.Ready.{ready_settled}
use Rattle.keystore_core.proofs.Opened.{found_more, is_other, stays_by, stays_same, without_keeps}
use Rattle.keystore_core.proofs.Standing.{called, clients_stay, denied_tables, rows_after, same_tables, slots_after, still, tickets_stay}
use Rattle.keystore_core.proofs.Stepped.{idle_there, row_found, row_named, slot_found, slot_named}

-- where an operation gave way, the keys and grants are as they were
pub way_keys : (pruned : Option ℕ) (old new : Tables) → MakesWay pruned old new → SameKeys old new
way_keys None old new way = subst (λ t. SameKeys old t) (sym way) (same_keys old)
way_keys (Some op) old new way = way.keys

-- the nonce of the operation
nonce_is : (facts : BeginFacts) (begin : Begin) (drawn : List ℕ) → MayBegin begin facts → nonce_used begin.nonce (take begin.wanted drawn) ≡ nonce_of facts drawn
nonce_is facts begin drawn may =
    ap (λ n. nonce_used n (take begin.wanted drawn)) may.nonce_is
    ∙ ap (λ n. nonce_used (nonce_given (asked_of facts) (key_of facts)) (take n drawn)) may.wanted_is
    ∙ by_nonce (nonce_given (asked_of facts) (key_of facts)) where
      by_nonce : (nonce : Option (List ℕ)) → nonce_used nonce (take (nonce_size facts) drawn) ≡ unwrap_or nonce (take (nonce_size facts) drawn)
      by_nonce None = refl
      by_nonce (Some nonce) = refl

-- the challenge of the operation, of the bytes behind the nonce
challenge_by : (per : Bool) (back : List ℕ) → length back ≡ (if per then 8 else 0)
    → (if length back == 8 then Some (big_number 8 back) else None) ≡ (if per then Some (big_number 8 back) else None)
challenge_by true back long = ap (λ n. if n == 8 then Some (big_number 8 back) else None) long
challenge_by false back long = ap (λ n. if n == 8 then Some (big_number 8 back) else None) long

challenge_is : (facts : BeginFacts) (begin : Begin) (drawn : List ℕ) → MayBegin begin facts → length drawn ≡ begin.wanted + challenge_wanted (key_of facts)
    → (if length (drop begin.wanted drawn) == 8 then Some (big_number 8 (drop begin.wanted drawn)) else None) ≡ challenge_of facts drawn
challenge_is facts begin drawn may long =
    challenge_by (is_per_operation (key_of facts)) (drop begin.wanted drawn) (omega (arith, length-drop begin.wanted drawn, long))
    ∙ ap (λ n. if is_per_operation (key_of facts) then Some (big_number 8 (drop n drawn)) else None) may.wanted_is

-- what is admitted over the facts that were gathered is so over those of the history, and what is denied too
pub admitted_over : (result : Result Admitted BeginFault) (own : OwnKey) (key : BeginKey) (gathered facts : BeginFacts) → IsBeginKey own key → gathered ≡ facts → answers.GivesAdmitted result own gathered → GivesAdmitted result key facts
admitted_over (Ok admitted) own key gathered facts is e told = record {
  may = subst (MayBegin admitted.begin) e told.may;
  id_is = told.id_is ∙ is.id_is;
  limited_is = told.limited_is ∙ is.limited_is;
  material_is = told.material_is ∙ is.material_is;
  list_is = told.list_is ∙ ap key_of e;
  challenge_is = told.challenge_is ∙ ap (λ (f : BeginFacts). challenge_wanted (key_of f)) e;
}
admitted_over (Err (Fault.Broken rule code)) own key gathered facts is e told = sym (ap begin_table.answer e) ∙ told
admitted_over (Err Fault.Memory) own key gathered facts is e told = tt

-- the facts that were gathered are those of what the descriptor finds
pub gathered_facts : (device : DeviceSecrets) (policy : List PolicyRow) (part : Lasting) (caller : Caller) (key : Descriptor) (params : List ℕ) (own : OwnKey) (forced : Bool) (conditions : Conditions)
    → OpensKey device policy part caller key params own
    → answers.facts_of device policy own caller forced conditions ≡ facts_by device policy own.found own.opened.list own.opened.fits (access_by policy part caller key) caller key (asked params) forced conditions
gathered_facts device policy part caller key params own forced conditions is =
    λ i. facts_by device policy own.found own.opened.list own.opened.fits (is.access_is i) caller (is.key_is i) (is.asked_is i) forced conditions

-- what the choice of the operation that gives way reads of a slot is what it reads of the open operation
facts_alike : (slot : Slot CipherState) (o : Open) → IsSlot slot o → seen.facts slot ≡ facts_of_open o
facts_alike slot o r = by_state (idle_value (Some slot)) o.ticket r.state where
  by_state : (v : Option CipherState) (t : Option ℕ) → IsKept v slot.stamp o t
      → ◌≡◌ {A = OpenFacts} (record { number = slot.number; uid = slot.uid; idle_since = if is_some v then Some slot.stamp else None }) (record { number = o.operation.number; uid = o.operation.uid; idle_since = if is_some t then None else Some o.touched })
  by_state None (Some ticket) kept = rw (r.number, r.uid) refl
  by_state (Some state) None kept = rw (r.number, r.uid, kept.0) refl
  by_state None None kept = absurd kept
  by_state (Some state) (Some ticket) kept = absurd kept

-- the step in which no slot is free is told by the table as by the history
pub free_is : (setup : Setup) (past : History) (tables : Tables) → TablesStand setup tables past → table.has_room tables.slots ≡ has_free setup past
free_is setup past tables stands = rw (alike_length IsSlot (operations_of tables.slots) (open_of setup past) stands.slots.slots_are, stands.slots.capacity_is) refl

pub pruned_is : (setup : Setup) (past : History) (tables : Tables) (uid step : ℕ) (forced : Bool) → TablesStand setup tables past → step ≡ step_of past
    → (if table.has_room tables.slots then None else victim (seen.open_facts tables.slots) step uid forced) ≡ pruned_for setup past uid forced
pruned_is setup past tables uid step forced stands is_step =
    rw (free_is setup past tables stands, alike_images IsSlot seen.facts facts_of_open facts_alike (operations_of tables.slots) (open_of setup past) stands.slots.slots_are, is_step) refl

pub room_is : (setup : Setup) (past : History) (tables : Tables) (uid : ℕ) (forced : Bool) (pruned : Option ℕ) → TablesStand setup tables past → pruned ≡ pruned_for setup past uid forced
    → (table.has_room tables.slots || is_some pruned) ≡ has_room setup past uid forced
room_is setup past tables uid forced pruned stands told = rw (free_is setup past tables stands, told) refl

-- an admitted begin has a slot: a free one where nothing gives way
pub is_free : (free room : Bool) (pruned : Option ℕ) → room ≡ (free || is_some pruned) → room ≡ true → IfNone pruned (free ≡ true)
is_free true room None f e = refl
is_free true room (Some op) f e = tt
is_free false room None f e = cc
is_free false room (Some op) f e = tt

pub idle_pruned : (slots : SlotTable Rattle.cipher_ops.specs.declared.state.CipherState.CipherState) (pruned : Option ℕ) → IfSome pruned (λ op. IsSome (idle_value (held slots op))) → (op : ℕ) → pruned ≡ Some op → is_some (idle_value (held slots op)) ≡ true
idle_pruned slots None idle op e = cc
idle_pruned slots (Some own) idle op e =
    let same : own ≡ op = cc in
    subst (λ n. IsSome (idle_value (held slots n))) same idle

-- where a slot is free there is room for a row
pub row_room : (tables : Tables) (step : ℕ) (act : Act) (back : Option JobDone) → ∥ IsAt tables step act back ∥₁ → (pruned : Option ℕ) → IfNone pruned (table.has_room tables.slots ≡ true)
    → IfNone pruned (HasRoomForOperation tables.operations)
row_room tables step act back at None free = ∥∥₁_elim at le_prop (λ t.
    let stands = t.stands.tables_stand in
    omega (
      arith,
      ltb-true (length (operations_of tables.slots)) (capacity_of tables.slots) free,
      stands.slots.capacity_is,
      stands.operations.most,
      alike_length IsRow (rows_in tables.operations) (open_of t.setup t.past) stands.operations.rows,
      alike_length IsSlot (operations_of tables.slots) (open_of t.setup t.past) stands.slots.slots_are,
    ))
row_room tables step act back at (Some op) free = tt

-- the operation that gives way has its row
row_there : (row : Option OperationRow) (o : Option Open) (slot : Option (Slot CipherState)) → BothFound IsRow row o → BothFound IsSlot slot o → IsSome (idle_value slot) → IsSome row
row_there (Some row) o slot rows slots idle = refl
row_there None (Some o) slot rows slots idle = absurd rows
row_there None None (Some slot) rows slots idle = absurd slots
row_there None None None rows slots idle = cc

pub way_row : (tables : Tables) (step : ℕ) (act : Act) (back : Option JobDone) → ∥ IsAt tables step act back ∥₁ → (pruned : Option ℕ) → IfSome pruned (λ op. IsSome (idle_value (held tables.slots op)))
    → IfSome pruned (λ op. IsSome (row_at tables op))
way_row tables step act back at None idle = tt
way_row tables step act back at (Some op) idle = ∥∥₁_elim at (≡_prop coded_bool _ _) (λ t.
    let stands = t.stands.tables_stand in
    row_there (row_at tables op) (operation_at t.setup t.past op) (held tables.slots op) (row_found t.setup t.past tables op stands) (slot_found t.setup t.past tables op stands) idle)

module _ (setup : Setup) (past : History) (tables : Tables) (caller : Caller) (key : Descriptor) (params : List ℕ) (forced : Bool) (stands : TablesStand setup tables past) (is_caller : IsCaller tables caller) where
  abbrev Beginning : Event
  Beginning = event_by caller (CreateOperation key params forced)

  abbrev Facts : BeginFacts
  Facts = begin_facts setup past caller key params forced

  abbrev Answer : Result Rattle.tags.specs.declared.plan.Plan.Plan (Rule × Code)
  Answer = begin_table.answer Facts

  same : caller ≡ caller_of past Beginning
  same = called past tables caller (CreateOperation key params forced) stands.clients is_caller

  -- what the tables find is what the history says
  pub access_is : access_by tables.policy (lasting tables.keys) caller key ≡ access_at setup past caller key
  access_is = rw (stands.keys.policy_is, stands.keys.lasting_is) refl

  pub found_key : (access : Access) → access ≡ access_by tables.policy (lasting tables.keys) caller key → key_in (lasting tables.keys) access ≡ key_found setup past caller key
  found_key access is = ap (λ part. key_in part access) stands.keys.lasting_is ∙ ap (key_in (kept setup past)) (is ∙ access_is)

  -- the key of the begin
  abbrev pub Key : BeginKey
  Key = begin_key_at setup past caller key params

  pub key_is : (own : OwnKey) (access : Access) (stored : Option KeyRecord) (told : Result (List Param) Code) → access ≡ access_by tables.policy (lasting tables.keys) caller key
      → stored ≡ key_in (lasting tables.keys) access → told ≡ asked params → IsBeginKey own (begin_key tables.device access stored key told) → IsBeginKey own Key
  key_is own access stored told at is same_list own_is =
      subst (IsBeginKey own)
      (ap (λ d. begin_key d access stored key told) stands.keys.device_is
      ∙ ap (begin_key (device_at setup past) access stored key) same_list
      ∙ ap (λ a. begin_key (device_at setup past) a stored key (asked params)) (at ∙ access_is)
      ∙ ap (λ s. begin_key (device_at setup past) (access_at setup past caller key) s key (asked params)) (is ∙ found_key access at))
      own_is

  -- what the rules read is that of the history
  pub facts_are : (own : OwnKey) (access : Access) (room : Bool) (told : Result (List Param) Code) (conditions : Conditions) → IsBeginKey own Key
      → access ≡ access_by tables.policy (lasting tables.keys) caller key → told ≡ asked params → room ≡ has_room setup past (owner_of caller) forced
      → conditions ≡ conditions_in tables.boot caller own.opened.list own.id room
      → facts_by tables.device tables.policy own.found own.opened.list own.opened.fits access caller key told forced conditions ≡ Facts
  facts_are own access room told conditions is at same_list has met_told =
      let met : conditions ≡ conditions_on setup past caller Key (has_room setup past (owner_of caller) forced) =
      met_told ∙ conditions_are setup past tables.boot stands.boot caller Key own.opened.list own.id room (has_room setup past (owner_of caller) forced) is.list_is is.id_is has in
      ap (λ d. facts_by d tables.policy own.found own.opened.list own.opened.fits access caller key told forced conditions) stands.keys.device_is
      ∙ ap (λ p. facts_by setup.device p own.found own.opened.list own.opened.fits access caller key told forced conditions) stands.keys.policy_is
      ∙ ap (λ f. facts_by setup.device setup.policy f own.opened.list own.opened.fits access caller key told forced conditions) is.found_is
      ∙ ap (λ l. facts_by setup.device setup.policy Key.found l own.opened.fits access caller key told forced conditions) is.list_is
      ∙ ap (λ f. facts_by setup.device setup.policy Key.found (list_read Key.opened) f access caller key told forced conditions) is.fits_is
      ∙ ap (λ a. facts_by setup.device setup.policy Key.found (list_read Key.opened) (fits_key Key.opened) a caller key told forced conditions) (at ∙ access_is)
      ∙ ap (λ l. facts_by setup.device setup.policy Key.found (list_read Key.opened) (fits_key Key.opened) (access_at setup past caller key) caller key l forced conditions) same_list
      ∙ ap (facts_by setup.device setup.policy Key.found (list_read Key.opened) (fits_key Key.opened) (access_at setup past caller key) caller key (asked params) forced) met

  answered : (drawn : List ℕ) (reply : Reply) → length drawn ≡ size_of (wanted_by_begin Answer Facts)
      → reply ≡ answer_by_rules (CreateOperation key params forced) setup past caller drawn → IsTrue (is_ready past (CreateOperation key params forced)) → MayFollow setup past Beginning drawn reply
  answered drawn reply drew is ready = Answered (record {
    ready = ready;
    drew = drew ∙ ap (λ c. size_of (wanted_by_rules (CreateOperation key params forced) setup past c)) same;
    is_answer = is ∙ ap (λ c. answer_by_rules (CreateOperation key params forced) setup past c drawn) same;
  })

  -- the reply of a begin that no rule denies
  abbrev Begun : List ℕ → Reply
  Begun drawn = begun_with (count_of is_begin past + 1) (challenge_of Facts drawn) (drawn_nonce Facts drawn) (pruned_for setup past (owner_of caller) forced)

  -- a broken rule
  pub refused : (rule : Rule) (code : Code) → Answer ≡ Err (rule, code)
      → AnswersAfter setup past tables Beginning (record { reply = Broken rule code; job = None; drawn = [] })
  refused rule code e =
      let none : operation_change setup past Beginning [] (Broken rule code) ≡ SameOperations = either (Rattle.step_rules.specs.Table.ends_operation rule) in
      record {
        follows = answered [] (Broken rule code)
            (sym (ap (λ found. size_of (wanted_by_begin found Facts)) e))
            (sym (ap (λ found. broken_or found (Begun [])) e));
        stands = denied_tables setup past Beginning [] (Broken rule code) tables tables stands (same_tables tables) refl refl none refl;
        has_job = refl;
        stays = stays_same setup past Beginning [] (Broken rule code) none;
      } where
        either : (b : Bool) → (if b then SameOperations else SameOperations) ≡ SameOperations
        either true = refl
        either false = refl

  -- how many bytes are drawn for a begin that may begin
  abbrev pub Size : Begin → ℕ
  Size begin = begin.wanted + challenge_wanted (key_of Facts)

  wanted_is : (begin : Begin) → MayBegin begin Facts → size_of (wanted_by_begin Answer Facts) ≡ Size begin
  wanted_is begin may = ap (λ found. size_of (wanted_by_begin found Facts)) may.answers ∙ ap (λ n. n + challenge_wanted (key_of Facts)) (sym may.wanted_is)

  -- a draw that failed
  pub without_entropy : (new : Tables) (begin : Begin) (drawn : List ℕ) → MayBegin begin Facts → SameTables tables new → length drawn < Size begin
      → AnswersAfter setup past new Beginning (record { reply = Stopped EntropyFault; job = None; drawn = drawn })
  without_entropy new begin drawn may still few = record {
    follows = λ ready. WithoutEntropy (record {
      ready = ready_settled past (CreateOperation key params forced) refl ready;
      drew = subst (λ c. length drawn < size_of (wanted_by_rules (CreateOperation key params forced) setup past c)) same (subst (λ n. length drawn < n) (sym (wanted_is begin may)) few);
      is_fault = refl;
    });
    stands = denied_tables setup past Beginning drawn (Stopped EntropyFault) tables new stands still refl refl refl refl;
    has_job = refl;
    stays = stays_same setup past Beginning drawn (Stopped EntropyFault) refl;
  }

  -- want of memory for the cipher's state
  pub unkept : (new : Tables) (begin : Begin) (drawn : List ℕ) → MayBegin begin Facts → SameTables tables new → length drawn ≡ Size begin
      → AnswersAfter setup past new Beginning (record { reply = Stopped MemoryAllocationFailed; job = None; drawn = drawn })
  unkept new begin drawn may still long = record {
    follows = λ ready. WithoutMemory (record {
      ready = inr (ready_settled past (CreateOperation key params forced) refl ready);
      drew = subst (λ c. length drawn ≤ size_of (wanted_by_rules (CreateOperation key params forced) setup past c)) same (omega (arith, long, wanted_is begin may));
      takes = refl;
      is_want = refl;
    });
    stands = denied_tables setup past Beginning drawn (Stopped MemoryAllocationFailed) tables new stands still refl refl refl refl;
    has_job = refl;
    stays = stays_same setup past Beginning drawn (Stopped MemoryAllocationFailed) refl;
  }

  -- the operation that begins
  opened : (drawn : List ℕ) (number : ℕ) (challenge : Option ℕ) (nonce : Option (List ℕ)) (pruned : Option ℕ)
      → operation_change setup past Beginning drawn (begun_with number challenge nonce pruned)
      ≡ Opens pruned (operation_on Key (facts_of_begin setup past caller key params) caller number drawn)
  opened drawn number challenge nonce pruned =
      sym (ap (λ c. opens (begin_key_at setup past c key params) (facts_of_begin setup past c key params) c (record no_fields { op = Some number; challenge = challenge; nonce = nonce; pruned = pruned }) drawn) same)

  -- it counts for the key, where that is stored
  counted : (drawn : List ℕ) (number : ℕ) (challenge : Option ℕ) (nonce : Option (List ℕ)) (pruned : Option ℕ)
      → boot_change setup past Beginning (begun_with number challenge nonce pruned) ≡ begins_on Key.id
  counted drawn number challenge given pruned = sym (ap (λ c. begins_on (id_of (key_found setup past c key))) same)

  -- what the operation that gives way leaves
  pub record Way (pruned : Option ℕ) (middle : Tables) : Type 0 where
    pub clients : Rattle.live_tables.specs.Clients.SameClients tables.clients middle.clients
    pub keys : SameKeys tables middle
    pub rows : Alike IsRow (rows_in middle.operations) (without_pruned pruned (open_of setup past))
    pub given : operations_given middle.operations ≡ operations_given tables.operations
    pub most : most_operations middle.operations ≡ most_operations tables.operations
    pub slots : Alike IsSlot (operations_of middle.slots) (without_pruned pruned (open_of setup past))
    pub capacity : capacity_of middle.slots ≡ capacity_of tables.slots
    pub fresh : (number : ℕ) → held tables.slots number ≡ None → held middle.slots number ≡ None
    pub later : (next : ℕ) → IsLater tables.slots next → IsLater middle.slots next
    pub tickets : Rattle.live_tables.specs.Tickets.SameTickets tables.tickets middle.tickets
    pub boot : SameBoot tables.boot middle.boot
    pub keeps : (n : ℕ) (x : Open) → is_busy x ≡ true → find (has_number n) (open_of setup past) ≡ Some x → find (has_number n) (without_pruned pruned (open_of setup past)) ≡ Some x

  makes_way : (start : Tables) (pruned : Option ℕ) (middle : Tables) → SameTables tables start → ((op : ℕ) → pruned ≡ Some op → is_some (idle_value (held tables.slots op)) ≡ true) → MakesWay pruned start middle → Way pruned middle
  makes_way start None middle still idle way = record {
    clients = rw way still.clients;
    keys = rw way still.keys;
    rows = rw (way, still.operations.rows) stands.operations.rows;
    given = rw way still.operations.given;
    most = rw way still.operations.most;
    slots = rw (way, still.slots) stands.slots.slots_are;
    capacity = rw (way, still.slots) refl;
    fresh = λ number none. rw (way, still.slots) none;
    later = λ next l. rw (way, still.slots) l;
    tickets = rw way still.tickets;
    boot = rw way still.boot;
    keeps = λ n x busy found. found;
  }
  makes_way start (Some op) middle still idle way =
      let now : TablesStand setup start past = Rattle.keystore_core.proofs.Standing.still setup past tables start stands still in
      record {
        clients = record { uids = λ client. way.clients.uids client ∙ still.clients.uids client; given = way.clients.given ∙ still.clients.given };
        keys = same_keys_twice tables start middle still.keys way.keys;
        rows = rw way.rows.rows (alike_filter IsRow (λ row. not (has_row op row)) (λ o. not (has_number op o)) (λ row o r. ap not (row_named op row o r)) (rows_in start.operations) (open_of setup past) now.operations.rows);
        given = way.rows.given ∙ still.operations.given;
        most = way.rows.most ∙ still.operations.most;
        slots = rw way.slots.operations (alike_filter IsSlot (λ slot. not (table.has_number op slot)) (λ o. not (has_number op o)) (λ slot o r. ap not (slot_named op slot o r)) (operations_of start.slots) (open_of setup past) now.slots.slots_are);
        capacity = way.slots.capacity ∙ ap capacity_of still.slots;
        fresh = λ number none. way.fresh number (rw still.slots none);
        later = λ next l. way.later next (rw still.slots l);
        tickets = record { outs = λ ticket. way.tickets.outs ticket ∙ still.tickets.outs ticket; given = way.tickets.given ∙ still.tickets.given };
        boot = same_boot_twice tables.boot start.boot middle.boot still.boot way.boot;
        keeps = λ n x busy found. without_keeps op (open_of setup past) n x
            (is_other op n (open_of setup past) x (idle_there (held tables.slots op) (operation_at setup past op) (slot_found setup past tables op stands) (idle op refl)) found busy) found;
      }

  pub begins : (start new : Tables) (admitted : Admitted) (row : OperationRow) (state : CipherState) (drawn : List ℕ) (number step : ℕ) (challenge : Option ℕ) (nonce : Option (List ℕ)) (pruned : Option ℕ)
      → IsAdmitted admitted Key Facts → SameTables tables start → length drawn ≡ admitted.begin.wanted + admitted.challenge
      → number ≡ operations_given start.operations + 1 → challenge ≡ (if length (drop admitted.begin.wanted drawn) == 8 then Some (big_number 8 (drop admitted.begin.wanted drawn)) else None)
      → nonce ≡ (if admitted.begin.wanted == 0 then None else Some (take admitted.begin.wanted drawn)) → pruned ≡ pruned_for setup past (owner_of caller) forced
      → ((op : ℕ) → pruned ≡ Some op → is_some (idle_value (held tables.slots op)) ≡ true) → step ≡ step_of past
      → IsNewRow row number caller.client admitted challenge → IsStart state admitted (take admitted.begin.wanted drawn)
      → OpensOne pruned step (owner_of caller) admitted.id row state start new
      → AnswersAfter setup past new Beginning (record { reply = begun_with number challenge nonce pruned; job = None; drawn = drawn })
  begins start new admitted row state drawn number step challenge nonce pruned is still_same whole next challenge_told nonce_told pruned_told idle is_step row_is standing one =
      let begin : Begin = admitted.begin in
      let may : MayBegin begin Facts = is.may in
      let long : length drawn ≡ Size begin = omega (arith, whole, is.challenge_is) in
      let o : Rattle.rule_model.specs.declared.operation.Operation.Operation = operation_on Key (facts_of_begin setup past caller key params) caller number drawn in
      let reply : Reply = begun_with number challenge nonce pruned in
      let way : Way pruned one.middle = makes_way start pruned one.middle still_same idle one.way in
      let first : number ≡ count_of is_begin past + 1 = next ∙ ap (λ n. n + 1) (still_same.operations.given ∙ stands.operations.given) in
      let told : nonce ≡ drawn_nonce Facts drawn = nonce_told ∙ ap (λ w. if w == 0 then None else Some (take w drawn)) may.wanted_is in
      let challenged : challenge ≡ challenge_of Facts drawn = challenge_told ∙ challenge_is Facts begin drawn may long in
      let change : operation_change setup past Beginning drawn reply ≡ Opens pruned o = opened drawn number challenge nonce pruned in
      let plan : begin.plan ≡ o.plan = may.plan_is in
      let same_nonce : nonce_used begin.nonce (take begin.wanted drawn) ≡ o.nonce = nonce_is Facts begin drawn may in
      let stays : Stays setup past (Acted Beginning drawn reply ∷ past) = stays_by setup past Beginning drawn reply (Opens pruned o) change stands.tickets.busy
      (λ ticket entered x after named busy there. found_more entered.op (without_pruned pruned (open_of setup past)) (as_begun (step_of past) o ∷ []) x (way.keeps entered.op x busy there)) in
      record {
        follows = answered drawn reply (long ∙ sym (wanted_is begin may)) (rw (first, challenged, told, pruned_told)
            (sym (ap (λ found. broken_or found (Begun drawn)) may.answers)));
        stands = record {
          clients = clients_stay setup past Beginning drawn reply tables.clients new.clients stands.clients
              (record { uids = λ client. one.clients.uids client ∙ way.clients.uids client; given = one.clients.given ∙ way.clients.given }) refl refl;
          keys = keys_stay setup past (Acted Beginning drawn reply ∷ past) tables new stands.keys (same_keys_twice tables one.middle new way.keys one.keys) (quiet_stored setup past Beginning drawn reply refl refl);
          operations = rows_after setup past Beginning drawn reply (Opens pruned o) new.operations change
              (rw one.rows.rows (alike_more IsRow (rows_in one.middle.operations) (without_pruned pruned (open_of setup past)) row (as_begun (step_of past) o) way.rows (record {
                number = row_is.number_is;
                client = row_is.client_is;
                key = row_is.key_is ∙ is.id_is;
                plan = row_is.plan_is ∙ plan;
                limited = row_is.limited_is ∙ is.limited_is;
                aad_is = row_is.aad_is;
                text_is = row_is.text_is;
                busy_is = row_is.busy_is;
                challenge_is = row_is.challenge_is ∙ challenged;
                shown_is = row_is.shown_is;
                list_is = row_is.list_is ∙ is.list_is;
              })))
              (one.rows.given ∙ ap (λ n. n + 1) (way.given ∙ stands.operations.given)) (one.rows.most ∙ way.most ∙ stands.operations.most);
          slots = slots_after setup past Beginning drawn reply (Opens pruned o) tables.slots new.slots stands.slots change
              (rw one.slots.operations (alike_more IsSlot (operations_of one.middle.slots) (without_pruned pruned (open_of setup past)) (idle_operation row.number (owner_of caller) row.client step state) (as_begun (step_of past) o) way.slots (record {
                number = row_is.number_is;
                uid = refl;
                client = row_is.client_is;
                state = (is_step, rw (plan, same_nonce, is.limited_is, is.material_is) at standing);
              })))
              (one.slots.capacity ∙ way.capacity)
              (λ n l. one.found n ∙ fresh n l)
              (λ next l. one.later next (way.later next (stands.slots.later next (omega (arith, l)))) (omega (arith, l, is_step)));
          tickets = tickets_stay setup past Beginning drawn reply tables.tickets new.tickets stands.tickets
              (record { outs = λ ticket. one.tickets.outs ticket ∙ way.tickets.outs ticket; given = one.tickets.given ∙ way.tickets.given }) refl refl stays;
          boot = boot_after setup past Beginning drawn reply (begins_on Key.id) one.middle.boot new.boot (boot_still setup past tables.boot one.middle.boot stands.boot way.boot)
              (counted drawn number challenge nonce pruned)
              (record { users = λ user. ap (λ device. unlocked_in device user) one.device ∙ sym (begun_users Key.id user (unlocked_in one.middle.boot.device user)); early = ap early_in one.device ∙ sym (begun_early Key.id (early_in one.middle.boot.device)) })
              (record { tokens = ap tokens_in one.tokens ∙ sym (begun_tokens Key.id (tokens_in one.middle.boot.tokens)); key = ap token_key_in one.tokens })
              (λ id. one.begins id ∙ ap (λ k. begins_after (begins_on k) id (begins_in one.middle.boot.begins id)) is.id_is);
        };
        has_job = refl;
        stays = stays;
      } where
        fresh : (n : ℕ) → count_of is_begin past + 1 < n → (if n == row.number then Some (idle_operation row.number (owner_of caller) row.client step state) else held one.middle.slots n) ≡ None
        fresh n l = elim (cases_Bool (n == row.number)) [
          | inl e ↦ absurd (let same_n : n ≡ row.number = eqb-true n row.number e in omega (arith, same_n, row_is.number_is, next, still_same.operations.given, stands.operations.given, l))
          | inr e ↦ rw e ((makes_way start pruned one.middle still_same idle one.way).fresh n (stands.slots.fresh n (omega (arith, l))))
        ]
