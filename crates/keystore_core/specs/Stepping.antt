-- The steps of an open operation.
use Rattle.std.specs.Prelude.{◌≡◌, ℕ, ◌+◌, ◌≤◌, Bool, true, false, List, length, Option, Some, None, option_map, Result, Ok, Err}
use Rattle.tags.specs.declared.code.Code.{Code}
use Rattle.tags.specs.declared.plan.Plan.{Plan}
use Rattle.tags.specs.declared.rule.Rule.{Rule}
use Rattle.tags.specs.declared.limits.TheConstants.{OPERATION_BYTES}
use Rattle.step_rules.specs.declared.facts.StepKind.{StepKind}
use Rattle.step_rules.specs.declared.facts.StepKind.TheVariants as kinds
use Rattle.step_rules.specs.Table.{ends_operation}
use Rattle.cipher_ops.specs.declared.job.Job.{Job}
use Rattle.cipher_ops.specs.declared.room.JobRoom.{JobRoom}
use Rattle.cipher_ops.specs.declared.room.Work.{Work}
use Rattle.cipher_ops.specs.declared.room.Work.TheVariants.{Aad, Text, Last}
use Rattle.cipher_ops.specs.declared.state.CipherState.{CipherState}
use Rattle.cipher_ops.specs.Jobs.{JobFor, ticket_of}
use Rattle.cipher_ops.specs.Running.{CanRun, GoesOn, IsRoom, MayCome}
use Rattle.cipher_ops.specs.Sizes.{own_text}
use Rattle.operation_slots.specs.Table.{FindsChanged, FindsNoMore, Gives, IsSound, KeepsLater, KeepsLaterThan, Takes, TakesOut, given_back, made_busy}
use Rattle.journal_records.specs.declared.change.Change.{Change}
use Rattle.journal_records.specs.declared.change.Change.TheVariants as changes
use Rattle.key_database.specs.declared.database.KeyDatabase.{KeyDatabase}
use Rattle.lasting_table.specs.TableView.{CanMake}
use Rattle.key_database.specs.Stands.{table_of}
use Rattle.keystore_core.specs.Writing.{used_of}
use Rattle.rule_model.specs.declared.event.Act.{Act}
use Rattle.rule_model.specs.declared.event.Act.TheVariants.{EnterAad, EnterUpdate, EnterFinish}
use Rattle.rule_model.specs.declared.facts.Brought.{Brought}
use Rattle.rule_model.specs.declared.reply.Reply.{Reply}
use Rattle.rule_model.specs.declared.reply.Reply.TheVariants.{Done as done, Stopped}
use Rattle.rule_model.specs.Replies.{no_fields}
use Rattle.live_tables.specs.declared.operations.Added.{Added}
use Rattle.live_tables.specs.declared.operations.OperationRow.{OperationRow}
use Rattle.live_tables.specs.declared.operations.RowChange.TheVariants.{Enters, Returns}
use Rattle.keystore_core.specs.declared.tables.Tables.{Tables}
use Rattle.live_tables.specs.declared.tickets.Out.{Out}
use Rattle.live_tables.specs.Boot.{SameBoot}
use Rattle.live_tables.specs.Clients.{SameClients}
use Rattle.keystore_core.specs.Keys.{SameKeys}
use Rattle.keystore_core.specs.Leaving.{ClosesOne}
use Rattle.live_tables.specs.Operations.{ChangesRow, DropsRow, operation_in}
use Rattle.keystore_core.specs.Tables.{state_at}
use Rattle.live_tables.specs.Tickets.{GivesTicket, TakesTicket, tickets_given}

-- the act that enters an operation with a work
abbrev pub entering : ℕ → Work → Act
entering op (Aad input) = EnterAad op input
entering op (Text input) = EnterUpdate op input
entering op (Last input signature) = EnterFinish op input signature

abbrev pub added_for : StepKind → ℕ → Added
added_for kinds.Aad input = record { aad = input; text = 0 }
added_for _ input = record { aad = 0; text = input }

abbrev pub added_by : Brought → Added
added_by brought = added_for brought.kind brought.input

-- the stored key that a finish on an operation uses once
abbrev pub used_for : StepKind → Option OperationRow → Option ℕ
used_for kinds.Last row = used_of row
used_for _ row = None

abbrev pub used_in : Tables → ℕ → StepKind → Option ℕ
used_in tables op kind = used_for kind (operation_in tables.operations op)

-- that change
abbrev pub used_by : Option ℕ → Option Change
used_by used = option_map changes.Use used

-- it may be made
abbrev pub CanSpend : KeyDatabase → Option ℕ → Type 0
CanSpend keys used = (id : ℕ) → used ≡ Some id → CanMake (table_of keys) (changes.Use id)

-- additional data puts out nothing
abbrev pub reply_of : StepKind → Result (List ℕ) Code → Reply
reply_of kind (Err code) = Stopped code
reply_of kinds.Aad (Ok out) = done no_fields
reply_of _ (Ok out) = done (record no_fields { out = Some out })

-- the operation is there, and its text has room for the work's
abbrev pub MayGrow : Option OperationRow → Work → Type 0
MayGrow None work = ⊥
MayGrow (Some row) work = row.text + own_text work ≤ OPERATION_BYTES

-- the operation is there, and the room is that of the work on it
abbrev pub IsRoomAt : Option OperationRow → Work → JobRoom → Type 0
IsRoomAt None work room = ⊥
IsRoomAt (Some row) work room = IsRoom room row.plan row.limited row.text work

-- there is a state, and it can take the work of a room
abbrev pub CanWork : Option CipherState → JobRoom → Type 0
CanWork None room = ⊥
CanWork (Some state) room = ∥ CanRun state room ∥₁

-- the operation is closed where that is so, and else all is as it was
abbrev pub ClosesIf : Bool → ℕ → Tables → Tables → Type 0
ClosesIf true op old new = ClosesOne op old new
ClosesIf false op old new = new ≡ old

-- a denial closes the operation where its rule says so
abbrev pub Denies : Rule → ℕ → Tables → Tables → Type 0
Denies rule op old new = ClosesIf (ends_operation rule) op old new

-- a work went out: its operation is busy, its ticket is kept, and its job is that of the state and the room
pub record SendsJob (out : Out) (room : JobRoom) (old new : Tables) (job : Job) : Type 0 where
  pub clients : SameClients old.clients new.clients
  pub keys : SameKeys old new
  pub rows : ChangesRow out.op Enters old.operations new.operations
  pub slots : Takes old.slots new.slots out.op
  pub found : FindsChanged old.slots new.slots out.op made_busy
  pub later : KeepsLater old.slots new.slots
  pub tickets : GivesTicket out old.tickets new.tickets
  pub boot : SameBoot old.boot new.boot
  pub number : ticket_of job ≡ tickets_given old.tickets + 1
  pub job_is : (plan : Plan) (limited : Bool) (key nonce aad text : List ℕ) (work : Work) → GoesOn (state_at old out.op) plan limited key nonce aad text
      → IsRoom room plan limited (length text) work → MayCome plan text work → JobFor job plan limited key nonce aad text work

-- what a work leaves of its operation: it goes on with its state, or after the last work it is closed
abbrev pub BackAs : Option CipherState → Out → ℕ → Tables → Tables → Type 0
BackAs None out step old new = DropsRow out.op old.operations new.operations × TakesOut old.slots new.slots out.op
    × FindsNoMore old.slots new.slots × KeepsLater old.slots new.slots
BackAs (Some state) out step old new = ChangesRow out.op (Returns (added_by out.brought)) old.operations new.operations × Gives old.slots new.slots out.op step state
    × FindsChanged old.slots new.slots out.op (given_back step state) × KeepsLaterThan old.slots new.slots step × IsSound old.slots

-- a work came back: its ticket is gone
pub record TakesBack (ticket : ℕ) (out : Out) (step : ℕ) (state : Option CipherState) (old new : Tables) : Type 0 where
  pub clients : SameClients old.clients new.clients
  pub keys : SameKeys old new
  pub tickets : TakesTicket ticket old.tickets new.tickets
  pub boot : SameBoot old.boot new.boot
  pub back_as : BackAs state out step old new
