use Rattle.std.proofs.Common.{◌≡◌, ℕ, ◌<◌, length, get_or}
use Rattle.turn_lock.specs.Passes.{made_of, IsPassOf, IsMakerOf}
use Rattle.shared_list.specs.Runs.{IsNew}
use Rattle.shared_list.proofs.run.new_passes.Given as goal

abbrev pub invariant-loop-made : goal.invariant-loop-made
invariant-loop-made l = record {
  ours : IsMakerOf l.lock l.maker;
  made : made_of l.maker ≡ l._made;
  count : length l.passes.items ≡ l._made;
  each : (k : ℕ) (d : _) → k < length l.passes.items → IsPassOf l.lock (get_or l.passes.items k d) × IsNew k (get_or l.passes.items k d);
}
