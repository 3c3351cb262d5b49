-- What became of a change on the disk, and when a call of it failed, each by an answer.
use Rattle.std.specs.Prelude.{Bool, true, false, Result, Ok, Err}
use Rattle.journal_records.specs.declared.fault.AppendFault.{AppendFault}
use Rattle.journal_records.specs.declared.fault.AppendFault.TheVariants as appends
use Rattle.journal_records.specs.declared.fault.ApplyFault.{ApplyFault}
use Rattle.journal_records.specs.declared.fault.ApplyFault.TheVariants as applies
use Rattle.journal_records.specs.declared.fault.StoreFault.{StoreFault}
use Rattle.journal_records.specs.declared.fault.StoreFault.TheVariants as stores

-- It is written. Or a call of the disk failed meanwhile, and it waits to be settled. Or no call was made, and nothing is written.
pub data CommitState : Type 0 where
  Committed : CommitState
  InDoubt : CommitState
  NotBegun : CommitState

abbrev pub append_state : {T : Type 0} → Result T AppendFault → CommitState
append_state (Ok done) = Committed
append_state (Err appends.Device) = InDoubt
append_state (Err appends.Full) = NotBegun

abbrev pub apply_state : {T : Type 0} → Result T ApplyFault → CommitState
apply_state (Ok done) = Committed
apply_state (Err applies.Device) = InDoubt
apply_state (Err applies.Memory) = NotBegun

abbrev pub is_in_doubt : CommitState → Bool
is_in_doubt Committed = false
is_in_doubt InDoubt = true
is_in_doubt NotBegun = false

-- whether a call of the disk failed in a change, by its answer
abbrev pub append_failed : {T : Type 0} → Result T AppendFault → Bool
append_failed result = is_in_doubt (append_state result)

abbrev pub apply_failed : {T : Type 0} → Result T ApplyFault → Bool
apply_failed result = is_in_doubt (apply_state result)

-- the same of an opening
abbrev pub is_device_fault : StoreFault → Bool
is_device_fault stores.Device = true
is_device_fault (stores.Corrupted offset) = false
is_device_fault stores.Memory = false

abbrev pub open_failed : {T : Type 0} → Result T StoreFault → Bool
open_failed (Ok opened) = false
open_failed (Err fault) = is_device_fault fault
