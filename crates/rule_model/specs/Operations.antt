-- The operations of a history: what began them, what they have taken, which work is out, and what they put out.
use Rattle.std.specs.Prelude.{ℕ, ◌+◌, Bool, true, false, ◌&&◌, not, ◌==◌, List, [], ◌∷◌, ◌++◌, Option, Some, None, Result, Ok, if◌then◌else◌, unwrap_or, is_some, length, map, filter, find, take, drop}
use Rattle.std.specs.Option.{option_and_then}
use Rattle.byteorder.specs.Endian.{big_number}
use Rattle.tags.specs.declared.code.Code.{Code}
use Rattle.tags.specs.declared.descriptor.Descriptor.{Descriptor}
use Rattle.tags.specs.declared.policy.PolicyRow.{PolicyRow}
use Rattle.tags.specs.declared.secrets.DeviceSecrets.{DeviceSecrets}
use Rattle.journal_records.specs.LastingPart.{Lasting}
use Rattle.key_rules.specs.Asked.{asked}
use Rattle.use_rules.specs.declared.facts.BeginFacts.{BeginFacts}
use Rattle.use_rules.specs.Plans.{is_per_operation, nonce_given, nonce_wanted, plan_of}
use Rattle.use_rules.specs.Table.{asked_of, key_of}
use Rattle.step_rules.specs.Table.{ends_operation}
use Rattle.auth_tokens.specs.declared.token.AuthToken.{AuthToken}
use Rattle.token_store.specs.Fitting.{fits}
use Rattle.cipher_ops.specs.declared.room.Work.{Work}
use Rattle.cipher_ops.specs.declared.room.Work.TheVariants.{Aad, Text, Last}
use Rattle.cipher_ops.specs.Output.{update_output, finish_output}
use Rattle.rule_model.specs.declared.event.Event.{Event}
use Rattle.rule_model.specs.declared.event.Act.{Act}
use Rattle.rule_model.specs.declared.event.Act.TheVariants.{AddAuthToken, Disconnect, CreateOperation, EnterAad, EnterUpdate, EnterFinish, Abort, Leave, Restart}
use Rattle.rule_model.specs.declared.entry_change.OperationChange.{OperationChange}
use Rattle.rule_model.specs.declared.entry_change.OperationChange.TheVariants.{SameOperations, Opens, Enters, Returns, Shows, Closes, ClosesOf, ClosesAll}
use Rattle.rule_model.specs.declared.operation.Open.{Open}
use Rattle.rule_model.specs.declared.operation.Operation.{Operation}
use Rattle.rule_model.specs.declared.facts.Caller.{Caller}
use Rattle.rule_model.specs.declared.facts.Conditions.{Conditions}
use Rattle.rule_model.specs.declared.reply.Fields.{Fields}
use Rattle.rule_model.specs.declared.reply.Reply.{Reply}
use Rattle.rule_model.specs.declared.reply.Reply.TheVariants.{Done, Broken, Stopped}
use Rattle.rule_model.specs.BeginFacts.{BeginKey, begin_key, facts_on}
use Rattle.rule_model.specs.Blobs.{device_at, material_read}
use Rattle.rule_model.specs.Clients.{caller_of}
use Rattle.rule_model.specs.Entries.{History, gives}
use Rattle.rule_model.specs.Access.{access_by, key_in, owner_of}
use Rattle.rule_model.specs.Settling.{is_faulted, is_unsettled}
use Rattle.rule_model.specs.Setup.{Setup}
use Rattle.rule_model.specs.declared.operation.Entered.{Entered}
use Rattle.rule_model.specs.Tickets.{ticket_at}
use Rattle.rule_model.specs.Tokens.{token_of}

-- how many of a begin's drawn bytes are its nonce
abbrev pub nonce_size : BeginFacts → ℕ
nonce_size facts = nonce_wanted (asked_of facts) (key_of facts)

-- the nonce of an operation: the one that the caller gave, or the one that was drawn
abbrev pub nonce_of : BeginFacts → List ℕ → List ℕ
nonce_of facts drawn = unwrap_or (nonce_given (asked_of facts) (key_of facts)) (take (nonce_size facts) drawn)

-- the challenge of an operation: the eight bytes drawn behind the nonce, the highest first, where a token has to be shown to it
abbrev pub challenge_of : BeginFacts → List ℕ → Option ℕ
challenge_of facts drawn = if is_per_operation (key_of facts) then Some (big_number 8 (drop (nonce_size facts) drawn)) else None

-- the operation of a begin on a key; one on a blob that was handed in has no key that could end
abbrev pub operation_on : BeginKey → BeginFacts → Caller → ℕ → List ℕ → Operation
operation_on key facts caller number drawn = record {
  number = number;
  client = caller.client;
  uid = owner_of caller;
  key = key.id;
  material = material_read key.opened;
  list = key_of facts;
  limited = key.limited;
  plan = plan_of (asked_of facts) (key_of facts);
  nonce = nonce_of facts drawn;
  challenge = challenge_of facts drawn;
}

-- the operation of a number
abbrev pub has_number : ℕ → Open → Bool
has_number number o = o.operation.number == number

-- an operation of a client
abbrev pub is_of : ℕ → Open → Bool
is_of client o = o.operation.client == client

-- an operation is busy while a work on it is out, and idle otherwise
abbrev pub is_busy : Open → Bool
is_busy o = is_some o.ticket

-- an operation that is to be shown a token waits until one was
abbrev pub is_waiting : Open → Bool
is_waiting o = is_some o.operation.challenge && not o.shown

-- a token is for an operation where it names its challenge and fits the key by the list that the begin read
abbrev pub is_for : AuthToken → Open → Bool
is_for token o = gives o.operation.challenge token.challenge && fits o.operation.list token

-- what a begin on a key reads of the key and of the call, whatever else it meets
abbrev pub no_conditions : Conditions
no_conditions = record { early_ended = false; unlocked = false; timely = false; begins = 0; room = true }

-- the key of a caller's begin, among the keys and grants that last
abbrev pub begin_key_in : DeviceSecrets → List PolicyRow → Lasting → Caller → Descriptor → List ℕ → BeginKey
begin_key_in device policy part caller key params =
    begin_key device (access_by policy part caller key) (key_in part (access_by policy part caller key)) key (asked params)

-- a begin's facts over a lasting part, from which its plan and its nonce follow
abbrev pub begin_facts_in : DeviceSecrets → List PolicyRow → Lasting → Caller → Descriptor → List ℕ → BeginFacts
begin_facts_in device policy part caller key params =
    facts_on device policy (begin_key_in device policy part caller key params) (access_by policy part caller key) caller key params false no_conditions

-- an admitted begin opens the operation of its number, in the place of the one that gives way
abbrev pub opens : BeginKey → BeginFacts → Caller → Fields → List ℕ → OperationChange
opens key facts caller fields drawn = opens_as fields.op where
  opens_as : Option ℕ → OperationChange
  opens_as None = SameOperations
  opens_as (Some number) = Opens fields.pruned (operation_on key facts caller number drawn)

-- an admitted enter gives its work a ticket
abbrev pub enters : ℕ → Option ℕ → OperationChange
enters op None = SameOperations
enters op (Some ticket) = Enters op ticket

-- an operation closes, where one does
abbrev pub closes : Option ℕ → OperationChange
closes None = SameOperations
closes (Some number) = Closes number

-- the operation of a work that came back goes on, and after its last one it closes
abbrev pub returns : Option Entered → OperationChange
returns None = SameOperations
returns (Some entered) = by_work entered.work where
  by_work : Work → OperationChange
  by_work (Aad input) = Returns entered.op input []
  by_work (Text input) = Returns entered.op [] input
  by_work (Last input signature) = Closes entered.op

-- A begin opens the operation whose number its reply gives. An updateAad, an update and a finish enter, and their leave goes
-- on. A token is shown. An abort, the client's disconnect and a restart close.
abbrev pub admitted_operation : Act → Setup → Lasting → History → Event → List ℕ → Fields → OperationChange
admitted_operation (CreateOperation key params forced) setup part past event drawn fields =
    opens (begin_key_in (device_at setup past) setup.policy part (caller_of past event) key params)
    (begin_facts_in (device_at setup past) setup.policy part (caller_of past event) key params) (caller_of past event) fields drawn
admitted_operation (EnterAad op input) setup part past event drawn fields = enters op fields.ticket
admitted_operation (EnterUpdate op input) setup part past event drawn fields = enters op fields.ticket
admitted_operation (EnterFinish op input signature) setup part past event drawn fields = enters op fields.ticket
admitted_operation (Abort op) setup part past event drawn fields = Closes op
admitted_operation (Leave ticket) setup part past event drawn fields = returns (ticket_at past ticket)
admitted_operation (AddAuthToken challenge user authenticator kind time mac) setup part past event drawn fields =
    Shows (token_of challenge user authenticator kind time mac)
admitted_operation Disconnect setup part past event drawn fields = ClosesOf event.client
admitted_operation (Restart root) setup part past event drawn fields = ClosesAll
admitted_operation _ setup part past event drawn fields = SameOperations

-- the operation that an act names
abbrev pub operation_of : Act → Option ℕ
operation_of (EnterAad op input) = Some op
operation_of (EnterUpdate op input) = Some op
operation_of (EnterFinish op input signature) = Some op
operation_of (Abort op) = Some op
operation_of _ = None

-- A leave whose output is refused goes on as well. A finish whose change is faulted closes its operation, whatever the settling says.
abbrev pub stopped_operation : Bool → Act → History → OperationChange
stopped_operation faulted (Leave ticket) past = returns (ticket_at past ticket)
stopped_operation faulted (EnterFinish op input signature) past = if faulted then Closes op else SameOperations
stopped_operation faulted _ past = SameOperations

-- An admitted act changes the operations as said, over the keys and grants that last then; a denial that ends the operation
-- closes it.
abbrev pub operation_change_in : Setup → Lasting → History → Event → List ℕ → Reply → OperationChange
operation_change_in setup part past event drawn (Done fields) = admitted_operation event.act setup part past event drawn fields
operation_change_in setup part past event drawn (Broken rule code) = if ends_operation rule then closes (operation_of event.act) else SameOperations
operation_change_in setup part past event drawn (Stopped code) =
    stopped_operation (is_faulted (is_unsettled past) event.act (Stopped code)) event.act past

-- the number of the step that makes the next entry
abbrev pub step_of : History → ℕ
step_of past = length past + 1

-- an operation that begins at a step has taken nothing
abbrev pub as_begun : ℕ → Operation → Open
as_begun step operation = record { operation = operation; aad = []; text = []; touched = step; ticket = None; shown = false }

-- an operation while a work of it is out
abbrev pub as_entered : ℕ → ℕ → Open → Open
as_entered step ticket o = record o { touched = step; ticket = Some ticket }

-- an operation whose work came back: it has taken the input
abbrev pub as_returned : ℕ → List ℕ → List ℕ → Open → Open
as_returned step aad text o = record o { aad = o.aad ++ aad; text = o.text ++ text; touched = step; ticket = None }

-- an operation that was shown its token
abbrev pub as_shown : Open → Open
as_shown o = record o { shown = true }

-- the operations with this change of the one of this number
abbrev pub with_change : ℕ → (Open → Open) → List Open → List Open
with_change number change = map (λ o. if has_number number o then change o else o)

-- the others
abbrev pub without : ℕ → List Open → List Open
without number = filter (λ o. not (has_number number o))

-- the operations that a begin leaves in their places
abbrev pub without_pruned : Option ℕ → List Open → List Open
without_pruned None opened = opened
without_pruned (Some number) opened = without number opened

-- the open operations after a change at a step
abbrev pub open_after : ℕ → OperationChange → List Open → List Open
open_after step SameOperations opened = opened
open_after step (Opens pruned o) opened = without_pruned pruned opened ++ as_begun step o ∷ []
open_after step (Enters op ticket) opened = with_change op (as_entered step ticket) opened
open_after step (Returns op aad text) opened = with_change op (as_returned step aad text) opened
open_after step (Shows token) opened = map (λ o. if is_for token o then as_shown o else o) opened
open_after step (Closes op) opened = without op opened
open_after step (ClosesOf client) opened = filter (λ o. not (is_of client o)) opened
open_after step ClosesAll opened = []

-- the limited key of an operation, where it is stored: a finish on the operation uses it
abbrev pub limited_key : Open → Option ℕ
limited_key o = if o.operation.limited then o.operation.key else None

-- that of the open operation of a number
abbrev pub used_key : ℕ → List Open → Option ℕ
used_key number opened = option_and_then limited_key (find (has_number number) opened)

-- What an operation gives for a work: nothing for additional data; for text, the bytes that are out after it and were not
-- before; for the last, all that is left of the whole output, or the code of its refusal.
abbrev pub output_of : Option Open → Work → Result (List ℕ) Code
output_of None work = Ok []
output_of (Some o) (Aad input) = Ok []
output_of (Some o) (Text input) =
    Ok (update_output o.operation.plan o.operation.limited o.operation.material o.operation.nonce o.text (o.text ++ input))
output_of (Some o) (Last input signature) =
    finish_output o.operation.plan o.operation.limited o.operation.material o.operation.nonce o.aad o.text (o.text ++ input) signature
