-- The plain facts of the operations in their slots.
use Rattle.std.specs.Prelude.{List, Some, None, map, if◌then◌else◌}
use Rattle.operation_slots.specs.declared.operation.SlotOperation.{SlotOperation}
use Rattle.operation_slots.specs.Table.{SlotTable, operations_of, number_of, uid_of, stamp_of, is_idle}
use Rattle.pruning.specs.Victim.{OpenFacts}

module _ {T : Type 0} where
  abbrev pub facts : SlotOperation T → OpenFacts
  facts o = record { number = number_of o; uid = uid_of o; idle_since = if is_idle o then Some (stamp_of o) else None }

  abbrev pub open_facts : SlotTable T → List OpenFacts
  open_facts slots = map facts (operations_of slots)
