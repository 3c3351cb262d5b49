use Rattle.std.proofs.Common.{◌≡◌, ◌<◌, ◌≤◌, ℕ, drop, get_or, length}
use Rattle.std.specs.Prelude.{vec_capacity}
use Rattle.std.specs.Vec.Iter.{into_iter_items, into_iter_len}
use Rattle.keystore_server.proofs.Pairing.{Suited}
use Rattle.keystore_server.proofs.workers.add_workers.Given as goal

abbrev pub invariant-passes : goal.invariant-passes
invariant-passes g l = record {
  left : into_iter_items l.left ≡ drop (length l.workers.items) l.fn.passes.items;
  count : into_iter_len l.left ≡ length (into_iter_items l.left);
  few : length l.workers.items ≤ length l.fn.passes.items;
  places : length l.fn.passes.items ≤ vec_capacity l.workers;
  each : (k : ℕ) (w : _) → k < length l.workers.items → Suited l.fn.passes.items k (get_or l.workers.items k w) (λ pass caller. (caller.shared.now ≡ l.shared) × (caller.clock.now ≡ l.clock) × (caller.pass ≡ pass));
}

abbrev pub decreases-passes : goal.decreases-passes
decreases-passes g l = into_iter_len l.left
