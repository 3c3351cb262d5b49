use Rattle.std.proofs.Common.{◌≡◌}
use Rattle.turn_lock.specs.Views.{turn_in, log_in, front_in}
use Rattle.turn_lock.proofs.Counting.{IsCounting}
use Rattle.turn_lock.proofs.lock.turns.TurnLock+T+E+K.leave.Given as goal

abbrev pub invariant-loop-counted : goal.invariant-loop-counted
invariant-loop-counted g l = record {
  here : l.seat.table_id ≡ l.initial.seat.table_id;
  counting : IsCounting g.T.History.entries g.T.History.maker l.self.name l.fn.turn.number (turn_in l.fn.turn.seat.me.0.stage) (log_in l.fn.turn.seat.me.0.stage) (front_in l.fn.turn.seat.me.0.hands) l.fn.value l.added l._counted l.seat.me;
}
