use Rattle.std.proofs.Common.{◌≡◌, drop, map}
use Rattle.group_index.specs.Grouped.{number_of}
use Rattle.operation_slots.specs.Table.{FindsNoMore, KeepsLater, capacity_of, operations_of, without_all}
use Rattle.keystore_core.proofs.connecting.take_all_out.Given as goal

abbrev pub invariant-loop-pair : goal.invariant-loop-pair
invariant-loop-pair l = record {
  left : without_all (map number_of (drop l.pair-index l.numbers)) (operations_of l.slots) ≡ without_all (map number_of l.numbers) (operations_of l.fn.slots);
  capacity : capacity_of l.slots ≡ capacity_of l.fn.slots;
  fresh : FindsNoMore l.fn.slots l.slots;
  later : KeepsLater l.fn.slots l.slots;
}
