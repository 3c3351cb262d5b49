-- The beginning of an operation.
use Rattle.std.specs.Prelude.{◌≡◌, ℕ, Bool, false, List, Option, Some, None, Result, Ok, Err, ⊤}
use Rattle.tags.specs.declared.descriptor.Descriptor.{Descriptor}
use Rattle.use_rules.specs.declared.facts.BeginFacts.{BeginFacts}
use Rattle.use_rules.specs.Plans.{challenge_wanted}
use Rattle.use_rules.specs.Table.{answer, key_of}
use Rattle.keymint_ops.specs.declared.begin.BeginFault.{BeginFault}
use Rattle.keymint_ops.specs.declared.begin.BeginFault.TheVariants.{Broken, Memory}
use Rattle.keymint_ops.specs.Begin.{MayBegin}
use Rattle.rule_model.specs.declared.facts.Caller.{Caller}
use Rattle.rule_model.specs.Access.{owner_of}
use Rattle.rule_model.specs.BeginFacts.{BeginKey}
use Rattle.rule_model.specs.Blobs.{material_read}
use Rattle.rule_model.specs.Boot.{begins_on}
use Rattle.rule_model.specs.Entries.{History}
use Rattle.rule_model.specs.Kept.{begin_key_at}
use Rattle.rule_model.specs.Setup.{Setup}
use Rattle.rule_model.specs.Slots.{begin_facts, has_room}
use Rattle.call_answers.specs.declared.begins.AdmittedBegin.{AdmittedBegin}
use Rattle.live_tables.specs.declared.operations.OperationRow.{OperationRow}
use Rattle.keystore_core.specs.declared.tables.Tables.{Tables}
use Rattle.cipher_ops.specs.declared.state.CipherState.{CipherState}
use Rattle.operation_slots.specs.Table.{Begins, FindsNew, KeepsLaterThan, idle_operation}
use Rattle.live_tables.specs.declared.begins.Begins.{Begins as TheBegins}
use Rattle.live_tables.specs.Begins.{ChangesBegins, HasRoomForBegin}
use Rattle.live_tables.specs.Clients.{SameClients}
use Rattle.keystore_core.specs.Keys.{SameKeys}
use Rattle.keystore_core.specs.Leaving.{ClosesOne}
use Rattle.live_tables.specs.Operations.{AddsRow}
use Rattle.keystore_core.specs.Tables.{TablesStand}
use Rattle.live_tables.specs.Tickets.{SameTickets}

-- there is room for a begin on a key, where it is stored
abbrev pub HasRoomOn : TheBegins → Option ℕ → Type 0
HasRoomOn begins None = Unit {0}
HasRoomOn begins (Some id) = HasRoomForBegin begins id

-- what no rule denies, on this key, where the rules read these facts
pub record IsAdmitted (admitted : AdmittedBegin) (key : BeginKey) (facts : BeginFacts) : Type 0 where
  pub may : MayBegin admitted.begin facts
  pub id_is : admitted.id ≡ key.id
  pub limited_is : admitted.limited ≡ key.limited
  pub material_is : admitted.material ≡ material_read key.opened
  pub list_is : admitted.list ≡ key_of facts
  pub challenge_is : admitted.challenge ≡ challenge_wanted (key_of facts)

-- what may begin, or the first rule that is broken, unless memory ran out
abbrev pub GivesAdmitted : Result AdmittedBegin BeginFault → BeginKey → BeginFacts → Type 0
GivesAdmitted (Ok admitted) key facts = IsAdmitted admitted key facts
GivesAdmitted (Err (Broken rule code)) key facts = answer facts ≡ Err (rule, code)
GivesAdmitted (Err Memory) key facts = ⊤

-- the same of a caller's begin, after every history for which the tables stand and by which there is a slot where this says so
abbrev pub Admits : Tables → Caller → Descriptor → List ℕ → Bool → Bool → Result AdmittedBegin BeginFault → Type 0
Admits tables caller key params forced room result =
    (setup : Setup) (past : History) → TablesStand setup tables past → room ≡ has_room setup past (owner_of caller) forced
    → GivesAdmitted result (begin_key_at setup past caller key params) (begin_facts setup past caller key params forced)

-- a row is an operation of what may begin, without text and additional data, to which no token was shown
pub record IsNewRow (row : OperationRow) (number client : ℕ) (admitted : AdmittedBegin) (challenge : Option ℕ) : Type 0 where
  pub number_is : row.number ≡ number
  pub client_is : row.client ≡ client
  pub key_is : row.key ≡ admitted.id
  pub plan_is : row.plan ≡ admitted.begin.plan
  pub limited_is : row.limited ≡ admitted.limited
  pub aad_is : row.aad ≡ 0
  pub text_is : row.text ≡ 0
  pub busy_is : row.busy ≡ false
  pub challenge_is : row.challenge ≡ challenge
  pub shown_is : row.shown ≡ false
  pub list_is : row.list ≡ admitted.list

-- the operation that gives way is closed, where one does
abbrev pub MakesWay : Option ℕ → Tables → Tables → Type 0
MakesWay None old new = new ≡ old
MakesWay (Some op) old new = ClosesOne op old new

-- an operation on a key opens in the place of one that gives way, and counts for the key where that is stored
pub record OpensOne (pruned : Option ℕ) (step uid : ℕ) (key : Option ℕ) (row : OperationRow) (state : CipherState) (old new : Tables) : Type 0 where
  pub middle : Tables
  pub way : MakesWay pruned old middle
  pub clients : SameClients middle.clients new.clients
  pub keys : SameKeys middle new
  pub rows : AddsRow row middle.operations new.operations
  pub slots : Begins middle.slots new.slots (idle_operation row.number uid row.client step state)
  pub found : FindsNew middle.slots new.slots (idle_operation row.number uid row.client step state)
  pub later : KeepsLaterThan middle.slots new.slots step
  pub tickets : SameTickets middle.tickets new.tickets
  pub device : new.boot.device ≡ middle.boot.device
  pub tokens : new.boot.tokens ≡ middle.boot.tokens
  pub begins : ChangesBegins (begins_on key) middle.boot.begins new.boot.begins
