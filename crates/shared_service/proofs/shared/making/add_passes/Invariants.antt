use Rattle.std.proofs.Common.{◌≡◌, ℕ, ◌+◌, ◌<◌, ◌≤◌, length, get_or}
use Rattle.std.specs.Prelude.{vec_capacity}
use Rattle.turn_lock.specs.Passes.{IsMakerOf, lock_id, made_of, name_of}
use Rattle.shared_service.specs.declared.pass.Pass.{Pass}
use Rattle.shared_service.specs.Passes.{IsNewPass}
use Rattle.shared_service.proofs.shared.making.add_passes.Given as goal

abbrev pub invariant-loop-made : goal.invariant-loop-made
invariant-loop-made g l = record {
  ours : IsMakerOf l.lock l.maker;
  made : made_of l.maker + 1 ≡ l._made;
  count : length l.passes.items + 1 ≡ l._made;
  places : l.count ≤ vec_capacity l.passes;
  each : (k : ℕ) (d : Pass g.row.N.Denot g.N.Entropy) → k < length l.passes.items → IsNewPass (lock_id l.lock) (name_of l.lock) l.count k (get_or l.passes.items k d);
}
