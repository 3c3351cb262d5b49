use Rattle.std.proofs.Common.{◌≡◌}
use Rattle.turn_lock.proofs.lock.turns.TurnLock+T+E+K.take_value.Given as goal

abbrev pub invariant-loop : goal.invariant-loop
invariant-loop g l = record {
  here : l.seat.table_id ≡ l.initial.seat.table_id;
  seat : l.seat.id ≡ l.initial.seat.id;
  same : l.seat.me ≡ l.initial.seat.me;
}
