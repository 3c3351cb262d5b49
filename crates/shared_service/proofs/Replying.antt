-- What the rules answer to the acts that take and give numbers.
use Rattle.std.proofs.Common.{◌≡◌, ◌≢◌, ℕ, ◌+◌, Bool, true, false, if◌then◌else◌, List, Option, Some, None, is_some, is_ok, Result, Ok, Err, refl, sym, ap, ◌∙◌, subst, arith}
use Rattle.std.specs.Prelude.{IfErr, IsTrue}
use Rattle.tags.specs.declared.code.Code.{Code}
use Rattle.tags.specs.declared.code.Code.TheVariants.{MemoryAllocationFailed, NoTicket, StoreFull, TokensFull, EntropyFault, SystemError, ValueCorrupted, VerificationFailed, InvalidKeyArgument}
use Rattle.tags.specs.declared.descriptor.Descriptor.{Descriptor}
use Rattle.tags.specs.declared.rule.Rule.{Rule}
use Rattle.tags.specs.declared.rule.RuleTable.TheVariants.{A}
use Rattle.tags.specs.declared.secrets.DeviceSecrets.{DeviceSecrets}
use Rattle.tags.specs.declared.settled.Settled.{Settled}
use Rattle.tags.specs.Table.{first_broken}
use Rattle.call_rules.specs.Table.{disconnect_rules}
use Rattle.key_blobs.specs.declared.sealed.Sealed.{Sealed}
use Rattle.cipher_ops.specs.declared.job.Done.{Done as JobDone}
use Rattle.cipher_ops.specs.Jobs.{is_refusal}
use Rattle.cipher_ops.specs.declared.room.Work.{Work}
use Rattle.cipher_ops.specs.declared.room.Work.TheVariants.{Aad, Text, Last}
use Rattle.journal_records.specs.declared.record.KeyRecord.{KeyRecord}
use Rattle.journal_records.specs.LastingPart.{Lasting}
use Rattle.rule_model.specs.declared.event.Act.{Act}
use Rattle.rule_model.specs.declared.event.Act.TheVariants.{Connect, Disconnect, GenerateKey, ImportKey, CreateOperation, EnterAad, EnterUpdate, EnterFinish, Abort, GetKeyEntry, DeleteKey, Grant, Ungrant, GetNumberOfEntries, ListEntriesBatched, AddAuthToken, DeviceLocked, DeviceUnlocked, EarlyBootEnded, ClearNamespace, UserRemoved, Leave, UpgradeKey, ImportWrappedKey}
use Rattle.rule_model.specs.declared.event.Event.{Event}
use Rattle.rule_model.specs.declared.facts.Caller.{Caller}
use Rattle.rule_model.specs.declared.reply.Fields.{Fields}
use Rattle.rule_model.specs.declared.reply.Reply.{Reply}
use Rattle.rule_model.specs.declared.reply.Reply.TheVariants.{Done, Broken, Stopped}
use Rattle.rule_model.specs.Access.{id_by}
use Rattle.rule_model.specs.Acts.{fixed_for, is_connect, is_disconnect, is_enter, is_leave, is_restart}
use Rattle.rule_model.specs.Answer.{answer, answer_by_rules, given_or, leaving, out_of, upgraded_with}
use Rattle.rule_model.specs.Blobs.{device_at}
use Rattle.rule_model.specs.Calls.{disconnect_ruling, grant_ruling, granted_in, key_entry}
use Rattle.rule_model.specs.Clients.{caller_of, uid_of}
use Rattle.rule_model.specs.Drawn.{size_of, wanted}
use Rattle.rule_model.specs.Entries.{History, count_of, is_done}
use Rattle.rule_model.specs.Jobs.{IsDoneOn, IsDoneOut}
use Rattle.rule_model.specs.Kept.{has_busy, kept, operation_at}
use Rattle.rule_model.specs.declared.operation.Open.{Open}
use Rattle.rule_model.specs.Operations.{output_of}
use Rattle.rule_model.specs.Legal.{IsAnswered, MayFollow, MaySettleFirst, is_restart_refusal, Answered, WithoutMemory, WithoutEntropy, Faulted, NotSettled, NotRestarted}
use Rattle.rule_model.specs.Replies.{broken_or, no_fields}
use Rattle.rule_model.specs.Setup.{Setup}
use Rattle.rule_model.specs.Stored.{change_by}
use Rattle.rule_model.specs.Upgrades.{upgrade_in}
use Rattle.rule_model.specs.declared.entry_change.TicketChange.TheVariants.{ComesBack}
use Rattle.rule_model.specs.declared.operation.Entered.{Entered}
use Rattle.rule_model.specs.Tickets.{next_ticket, stopped_ticket, ticket_at, ticket_change, admitted_ticket}
use Rattle.rule_model.proofs.Admitted.{answered_done, broken_done, broken_fields}

-- ---- an admitted answer is by the rules

pub by_rules : (setup : Setup) (past : History) (event : Event) (drawn : List ℕ) (fields : Fields) → MayFollow setup past event drawn (Done fields) → Done fields ≡ answer_by_rules event.act setup past (caller_of past event) drawn
by_rules setup past event drawn fields may =
    let is = answered_done setup past event drawn fields may in
    is.is_answer

-- the ticket of an admitted enter
entering_ticket : {T : Type 0} (ruling : Result T (Rule × Code)) (given fields : Fields) (next : ℕ) → given.ticket ≡ Some next → Done fields ≡ broken_or ruling (Done given) → fields.ticket ≡ Some next
entering_ticket ruling given fields next is e = let same = broken_fields ruling given fields (sym e) in ap (λ (f : Fields). f.ticket) (sym same) ∙ is

pub entered_ticket : (setup : Setup) (past : History) (event : Event) (drawn : List ℕ) (fields : Fields) → is_enter event.act ≡ true → MayFollow setup past event drawn (Done fields) → fields.ticket ≡ Some (next_ticket past)
entered_ticket setup past event drawn fields enters may = by_act event.act (caller_of past event) enters (by_rules setup past event drawn fields may) where
  by_act : (act : Act) (caller : Caller) → is_enter act ≡ true → Done fields ≡ answer_by_rules act setup past caller drawn → fields.ticket ≡ Some (next_ticket past)
  by_act (EnterAad op input) caller enters e = entering_ticket _ _ fields (next_ticket past) refl e
  by_act (EnterUpdate op input) caller enters e = entering_ticket _ _ fields (next_ticket past) refl e
  by_act (EnterFinish op input signature) caller enters e = entering_ticket _ _ fields (next_ticket past) refl e
  by_act _ caller enters e = cc

-- the client of an admitted connect
pub connected_client : (setup : Setup) (past : History) (event : Event) (drawn : List ℕ) (fields : Fields) → is_connect event.act ≡ true → MayFollow setup past event drawn (Done fields) → fields.client ≡ Some (count_of is_connect past + 1)
connected_client setup past event drawn fields connects may = by_act event.act (caller_of past event) connects (by_rules setup past event drawn fields may) where
  by_act : (act : Act) (caller : Caller) → is_connect act ≡ true → Done fields ≡ answer_by_rules act setup past caller drawn → fields.client ≡ Some (count_of is_connect past + 1)
  by_act (Connect uid) caller connects e = fields_client e where
    given : Reply → Option ℕ
    given (Done f) = f.client
    given (Broken rule code) = None
    given (Stopped code) = None

    fields_client : Done fields ≡ answer_by_rules (Connect uid) setup past caller drawn → fields.client ≡ Some (count_of is_connect past + 1)
    fields_client e = ap given e
  by_act _ caller connects e = cc

-- ---- a disconnect

ruling_ok : (connected busy : Bool) → is_ok (first_broken A (disconnect_rules connected busy)) ≡ true → connected ≡ true
ruling_ok true busy e = refl
ruling_ok false busy e = cc

pub parted_client : (setup : Setup) (past : History) (event : Event) (drawn : List ℕ) (fields : Fields) → is_disconnect event.act ≡ true → MayFollow setup past event drawn (Done fields) → is_some (uid_of past event.client) ≡ true
parted_client setup past event drawn fields parts may = by_act event.act parts (by_rules setup past event drawn fields may) where
  by_act : (act : Act) → is_disconnect act ≡ true → Done fields ≡ answer_by_rules act setup past (caller_of past event) drawn → is_some (uid_of past event.client) ≡ true
  by_act Disconnect parts e = ruling_ok (is_some (uid_of past event.client)) (has_busy setup past event.client) (broken_done (disconnect_ruling (caller_of past event) (has_busy setup past event.client)) (Done _) (ap is_done (sym e)))
  by_act _ parts e = cc

-- an act that takes no memory, settles and draws nothing and changes nothing that lasts is answered by the rules
plain_answer : (setup : Setup) (past : History) (event : Event) (drawn : List ℕ) (reply : Reply) → (fixed_for event.act).takes_memory ≡ false → (fixed_for event.act).settles ≡ false → size_of (wanted setup past event) ≡ 0
    → is_some (change_by setup past event drawn) ≡ false → is_restart event.act ≡ false → MayFollow setup past event drawn reply → IsAnswered setup past event drawn reply
plain_answer setup past event drawn reply memory settles none changes restarts (Answered is) = is
plain_answer setup past event drawn reply memory settles none changes restarts (WithoutMemory is) = absurd (let yes = is.takes in cc)
plain_answer setup past event drawn reply memory settles none changes restarts (WithoutEntropy is) = absurd (omega (arith, is.drew, none))
plain_answer setup past event drawn reply memory settles none changes restarts (Faulted is) = absurd (let yes = is.writes in cc)
plain_answer setup past event drawn reply memory settles none changes restarts (NotSettled is) = absurd (let yes = is.settles in cc)
plain_answer setup past event drawn reply memory settles none changes restarts (NotRestarted code is) = absurd (let yes = is.restarts in cc)

with_act : Event → Act → Event
with_act event act = record event { act = act }

pub parting_answer : (setup : Setup) (past : History) (event : Event) (drawn : List ℕ) (reply : Reply) → event.act ≡ Disconnect → MayFollow setup past event drawn reply → reply ≡ broken_or (disconnect_ruling (caller_of past event) (has_busy setup past event.client)) (Done no_fields)
parting_answer setup past event drawn reply is may =
    let it = plain_answer setup past event drawn reply (ap (λ (a : Act). (fixed_for a).takes_memory) is) (ap (λ (a : Act). (fixed_for a).settles) is) (ap (λ (a : Act). size_of (wanted setup past (record event { act = a }))) is)
    (ap (λ (a : Act). is_some (change_by setup past (record event { act = a }) drawn)) is) (ap is_restart is) may in
    it.is_answer ∙ ap (λ (a : Act). answer setup past (record event { act = a }) drawn) is

pub leaving_answer : (setup : Setup) (past : History) (event : Event) (drawn : List ℕ) (reply : Reply) (ticket : ℕ) → event.act ≡ Leave ticket → MayFollow setup past event drawn reply → reply ≡ leaving setup past (ticket_at past ticket)
leaving_answer setup past event drawn reply ticket is may =
    let it = plain_answer setup past event drawn reply (ap (λ (a : Act). (fixed_for a).takes_memory) is) (ap (λ (a : Act). (fixed_for a).settles) is) (ap (λ (a : Act). size_of (wanted setup past (record event { act = a }))) is)
    (ap (λ (a : Act). is_some (change_by setup past (record event { act = a }) drawn)) is) (ap is_restart is) may in
    it.is_answer ∙ ap (λ (a : Act). answer setup past (record event { act = a }) drawn) is

given_change : (ticket : ℕ) (event : Event) (work : Work) (result : Result (List ℕ) Code) → event.act ≡ Leave ticket → ticket_change event (given_or work result) ≡ ComesBack ticket
given_change ticket event work (Ok bytes) e = ap (λ (a : Act). admitted_ticket a (record no_fields { out = out_of work bytes })) e
given_change ticket event work (Err code) e = ap stopped_ticket e

leaving_change : (setup : Setup) (past : History) (ticket : ℕ) (event : Event) (entered : Option Entered) → event.act ≡ Leave ticket → ticket_change event (leaving setup past entered) ≡ ComesBack ticket
leaving_change setup past ticket event None e = ap stopped_ticket e
leaving_change setup past ticket event (Some entered) e = given_change ticket event entered.work _ e

pub left_change : (setup : Setup) (past : History) (event : Event) (drawn : List ℕ) (reply : Reply) (ticket : ℕ) → event.act ≡ Leave ticket → MayFollow setup past event drawn reply → ticket_change event reply ≡ ComesBack ticket
left_change setup past event drawn reply ticket is may = ap (ticket_change event) (leaving_answer setup past event drawn reply ticket is may) ∙ leaving_change setup past ticket event (ticket_at past ticket) is

-- a leave and a disconnect settle nothing
pub leave_settles_none : (settled : Option Settled) (past : History) (event : Event) → (fixed_for event.act).settles ≡ false → MaySettleFirst settled past event → settled ≡ None
leave_settles_none None past event none may = refl
leave_settles_none (Some settled) past event none may = absurd (let yes = may.settles in cc)

-- the disconnect of a connected client no work on an operation of which is out is admitted
admits_parting : (connected busy : Bool) (reply : Reply) → connected ≡ true → busy ≡ false → broken_or (first_broken A (disconnect_rules connected busy)) reply ≡ reply
admits_parting true false reply c b = refl
admits_parting true true reply c b = cc
admits_parting false busy reply c b = cc

pub parting_done : (setup : Setup) (past : History) (event : Event) (drawn : List ℕ) (reply : Reply) → event.act ≡ Disconnect → is_some (uid_of past event.client) ≡ true → has_busy setup past event.client ≡ false → MayFollow setup past event drawn reply
    → is_done reply ≡ true
parting_done setup past event drawn reply is connected idle may =
    ap is_done (parting_answer setup past event drawn reply is may ∙ admits_parting (is_some (uid_of past event.client)) (has_busy setup past event.client) (Done no_fields) connected idle)

-- ---- which code never comes

abbrev Lacks : Reply → Type 0
Lacks reply = reply ≡ Stopped NoTicket → ⊥

done_lacks : (fields : Fields) → Lacks (Done fields)
done_lacks fields e = cc

broken_lacks : (rule : Rule) (code : Code) → Lacks (Broken rule code)
broken_lacks rule code e = cc

is_no_ticket : Code → Bool
is_no_ticket NoTicket = true
is_no_ticket _ = false

other_lacks : (code : Code) → is_no_ticket code ≡ false → Lacks (Stopped code)
unfolding is_no_ticket
other_lacks NoTicket e q = cc
other_lacks code e q = let same : code ≡ NoTicket = code_is q in let here : is_no_ticket code ≡ true = ap is_no_ticket same in differ (sym e ∙ here) where
  differ : false ≡ true → ⊥
  differ e = cc

  code_is : Stopped code ≡ Stopped NoTicket → code ≡ NoTicket
  code_is q = cc

broken_no : {T : Type 0} (ruling : Result T (Rule × Code)) (reply : Reply) → Lacks reply → Lacks (broken_or ruling reply)
broken_no (Ok found) reply lacks = lacks
broken_no (Err broken) reply lacks = broken_lacks broken.0 broken.1

if_no : (b : Bool) (x y : Reply) → Lacks x → Lacks y → Lacks (if b then x else y)
if_no true x y p q = p
if_no false x y p q = q

store_full : Lacks (Stopped StoreFull)
store_full e = cc

tokens_full : Lacks (Stopped TokensFull)
tokens_full e = cc

entry_no : (found : Option KeyRecord) → Lacks (key_entry found)
entry_no None = done_lacks _
entry_no (Some key) = done_lacks _

grant_no : (part : Lasting) (id : Option ℕ) (uid : ℕ) → Lacks (granted_in part id uid)
grant_no part None uid = done_lacks _
grant_no part (Some id) uid = if_no _ (Done _) (Stopped StoreFull) (done_lacks _) store_full

made_no : (b : Bool) (fields : Fields) → Lacks (if b then Done fields else Stopped StoreFull)
made_no b fields = if_no b (Done fields) (Stopped StoreFull) (done_lacks fields) store_full

token_no : (b : Bool) → Lacks (if b then Stopped TokensFull else Done no_fields)
token_no b = if_no b (Stopped TokensFull) (Done no_fields) tokens_full (done_lacks no_fields)

upgrade_no : (device : DeviceSecrets) (key : Descriptor) (drawn : List ℕ) (ruling : Result (Option Sealed) (Rule × Code)) → Lacks (upgraded_with device key drawn ruling)
upgrade_no device key drawn (Err (rule, code)) = broken_lacks rule code
upgrade_no device key drawn (Ok change) = done_lacks _

rules_no : (act : Act) (setup : Setup) (past : History) (caller : Caller) (drawn : List ℕ) → is_leave act ≡ false → Lacks (answer_by_rules act setup past caller drawn)
rules_no (GenerateKey key params) setup past caller drawn l = broken_no _ _ (made_no _ _)
rules_no (ImportKey key params format material) setup past caller drawn l = broken_no _ _ (made_no _ _)
rules_no (ImportWrappedKey key params wrapping wrapped unwrapping) setup past caller drawn l = broken_no _ _ (made_no _ _)
rules_no (CreateOperation key params forced) setup past caller drawn l = broken_no _ _ (done_lacks _)
rules_no (EnterAad op input) setup past caller drawn l = broken_no _ _ (done_lacks _)
rules_no (EnterUpdate op input) setup past caller drawn l = broken_no _ _ (done_lacks _)
rules_no (EnterFinish op input signature) setup past caller drawn l = broken_no _ _ (done_lacks _)
rules_no (Abort op) setup past caller drawn l = broken_no _ _ (done_lacks _)
rules_no Disconnect setup past caller drawn l = broken_no _ _ (done_lacks _)
rules_no (GetKeyEntry key) setup past caller drawn l = broken_no _ _ (entry_no _)
rules_no (DeleteKey key) setup past caller drawn l = broken_no _ _ (done_lacks _)
rules_no (Grant key uid bits) setup past caller drawn l =
    broken_no (grant_ruling setup.policy (kept setup past) caller key bits) (granted_in (kept setup past) (id_by setup.policy (kept setup past) caller key) uid) (grant_no (kept setup past) (id_by setup.policy (kept setup past) caller key) uid)
rules_no (Ungrant key uid) setup past caller drawn l = broken_no _ _ (done_lacks _)
rules_no (GetNumberOfEntries domain nspace) setup past caller drawn l = broken_no _ _ (done_lacks _)
rules_no (ListEntriesBatched domain nspace behind) setup past caller drawn l = broken_no _ _ (done_lacks _)
rules_no (ClearNamespace domain nspace) setup past caller drawn l = broken_no _ _ (done_lacks _)
rules_no (UserRemoved user) setup past caller drawn l = broken_no _ _ (done_lacks _)
rules_no (AddAuthToken challenge user authenticator kind time mac) setup past caller drawn l = broken_no _ _ (token_no _)
rules_no (DeviceLocked user) setup past caller drawn l = broken_no _ _ (done_lacks _)
rules_no (DeviceUnlocked user) setup past caller drawn l = broken_no _ _ (done_lacks _)
rules_no EarlyBootEnded setup past caller drawn l = broken_no _ _ (done_lacks _)
rules_no (UpgradeKey key params) setup past caller drawn l =
    upgrade_no (device_at setup past) key drawn (upgrade_in (device_at setup past) setup.policy (kept setup past) caller key params)
rules_no (Leave ticket) setup past caller drawn l = cc
rules_no _ setup past caller drawn l = done_lacks _

restart_no : (code : Code) → IsTrue (is_restart_refusal code) → Lacks (Stopped code)
restart_no NoTicket e = cc
restart_no code e = other_code code e where
  other_code : (code : Code) → IsTrue (is_restart_refusal code) → Lacks (Stopped code)
  other_code SystemError e q = cc
  other_code ValueCorrupted e q = cc
  other_code _ e q = cc

want_lacks : Lacks (Stopped MemoryAllocationFailed)
want_lacks e = cc

entropy_lacks : Lacks (Stopped EntropyFault)
entropy_lacks e = cc

system_lacks : Lacks (Stopped SystemError)
system_lacks e = cc

pub never_no_ticket : (setup : Setup) (past : History) (event : Event) (drawn : List ℕ) (reply : Reply) → is_leave event.act ≡ false → MayFollow setup past event drawn reply → reply ≢ Stopped NoTicket
never_no_ticket setup past event drawn reply l (Answered is) = subst Lacks (sym is.is_answer) (rules_no event.act setup past (caller_of past event) drawn l)
never_no_ticket setup past event drawn reply l (WithoutMemory is) = subst Lacks (sym is.is_want) want_lacks
never_no_ticket setup past event drawn reply l (WithoutEntropy is) = subst Lacks (sym is.is_fault) entropy_lacks
never_no_ticket setup past event drawn reply l (Faulted is) = subst Lacks (sym is.is_fault) system_lacks
never_no_ticket setup past event drawn reply l (NotSettled is) = subst Lacks (sym is.is_fault) system_lacks
never_no_ticket setup past event drawn reply l (NotRestarted code is) = subst Lacks (sym is.is_refusal) (restart_no code is.refusal)

-- a leave whose ticket is out is answered with its output or with the code of its refusal, and the disconnect of a connected client by the rules
done_not_want : (fields : Fields) → Done fields ≢ Stopped MemoryAllocationFailed
done_not_want fields e = cc

broken_not_want : (rule : Rule) (code : Code) → Broken rule code ≢ Stopped MemoryAllocationFailed
broken_not_want rule code e = cc

given_not : (work : Work) (result : Result (List ℕ) Code) → IfErr result (λ code. is_refusal code ≡ true) → (given_or work result ≢ Stopped MemoryAllocationFailed) × (given_or work result ≢ Stopped NoTicket)
given_not work (Ok bytes) refuses = (done_not_want _, done_lacks _)
given_not work (Err code) refuses = by_code code refuses where
  by_code : (code : Code) → is_refusal code ≡ true → (Stopped code ≢ Stopped MemoryAllocationFailed) × (Stopped code ≢ Stopped NoTicket)
  by_code VerificationFailed refuses = (λ e. cc, λ e. cc)
  by_code InvalidKeyArgument refuses = (λ e. cc, λ e. cc)
  by_code _ refuses = cc

output_refuses : (o : Option Open) (work : Work) (back : JobDone) → IsDoneOn o work back → IfErr (output_of o work) (λ code. is_refusal code ≡ true)
output_refuses None work back on = absurd on
output_refuses (Some o) (Aad input) back on = tt
output_refuses (Some o) (Text input) back on = tt
output_refuses (Some o) (Last input signature) back on = subst (λ r. IfErr r (λ code. is_refusal code ≡ true)) on.comes.0 on.refuses

pub leaving_not : (setup : Setup) (past : History) (entered : Option Entered) (back : JobDone) → is_some entered ≡ true → IsDoneOut setup past entered (Some back) → (leaving setup past entered ≢ Stopped MemoryAllocationFailed) × (leaving setup past entered ≢ Stopped NoTicket)
leaving_not setup past None back out done_is = cc
leaving_not setup past (Some entered) back out done_is = given_not entered.work _ (output_refuses (operation_at setup past entered.op) entered.work back done_is)

pub parting_not : {T : Type 0} (ruling : Result T (Rule × Code)) → broken_or ruling (Done no_fields) ≢ Stopped MemoryAllocationFailed
parting_not (Ok found) = done_not_want no_fields
parting_not (Err broken) = broken_not_want broken.0 broken.1
