-- The slots of the open operations, with their cipher states: when they stand for a history.
use Rattle.std.specs.Prelude.{◌≡◌, ℕ, ◌<◌, length, Option, Some, None}
use Rattle.cipher_ops.specs.declared.state.CipherState.{CipherState}
use Rattle.cipher_ops.specs.Standing.{StandsFor}
use Rattle.operation_slots.specs.declared.operation.SlotOperation.{SlotOperation}
use Rattle.operation_slots.specs.Table.{IsLater, SlotTable, capacity_of, client_of, held, idle_value, number_of, operations_of, stamp_of, uid_of}
use Rattle.rule_model.specs.Kept.{open_of}
use Rattle.rule_model.specs.Acts.{is_begin}
use Rattle.rule_model.specs.Entries.{History, count_of}
use Rattle.rule_model.specs.declared.operation.Open.{Open}
use Rattle.rule_model.specs.Setup.{Setup}
use Rattle.live_tables.specs.Alike.{Alike}

-- the state of an open operation stands for what it has taken
abbrev pub IsStateOf : CipherState → Open → Type 0
IsStateOf state o = StandsFor state o.operation.plan o.operation.limited o.operation.material o.operation.nonce o.aad o.text

-- an idle operation has its state in its slot, with the step that last touched it; that of a busy one is with its job
abbrev pub IsKept : Option CipherState → ℕ → Open → Option ℕ → Type 0
IsKept None stamp o (Some ticket) = Unit {0}
IsKept (Some state) stamp o None = (stamp ≡ o.touched) × IsStateOf state o
IsKept None stamp o None = ⊥
IsKept (Some state) stamp o (Some ticket) = ⊥

pub record IsSlot (slot : SlotOperation CipherState) (o : Open) : Type 0 where
  pub number : number_of slot ≡ o.operation.number
  pub uid : uid_of slot ≡ o.operation.uid
  pub client : client_of slot ≡ o.operation.client
  pub state : IsKept (idle_value (Some slot)) (stamp_of slot) o o.ticket

-- the slots stand for a history: no number is held that was not given, and no stamp is of a step to come
pub record SlotsStand (setup : Setup) (slots : SlotTable CipherState) (past : History) : Type 0 where
  pub slots_are : Alike IsSlot (operations_of slots) (open_of setup past)
  pub capacity_is : capacity_of slots ≡ setup.slots
  pub fresh : (number : ℕ) → count_of is_begin past < number → held slots number ≡ None
  pub later : (next : ℕ) → length past < next → IsLater slots next
