use Rattle.std.proofs.Common.{◌≡◌}
use Rattle.turn_lock.specs.Rule.{own}
use Rattle.turn_lock.specs.Passes.{front, number_of, IsPassOf}
use Rattle.shared_list.specs.Lists.{by, counted}
use Rattle.shared_list.proofs.append.append_all.Given as goal

abbrev pub invariant-loop-item : goal.invariant-loop-item
invariant-loop-item g l = record {
  ours : IsPassOf l.lock l.pass;
  number : number_of l.pass ≡ number_of l.fn.pass;
  own : own by (number_of l.fn.pass) (front l.pass) ≡ counted (number_of l.fn.pass) l.item;
}
