use Rattle.std.proofs.Common.{◌≡◌, ◌<◌, ◌≤◌, ℕ, drop, get_or, length}
use Rattle.std.specs.Prelude.{vec_capacity}
use Rattle.std.specs.Vec.Iter.{into_iter_items, into_iter_len}
use Rattle.shared_service.specs.declared.pass.Pass.{Pass}
use Rattle.keystore_server.proofs.Pairing.{Taken}
use Rattle.keystore_server.proofs.workers.take_passes.Given as goal

abbrev pub invariant-workers : goal.invariant-workers
invariant-workers g l = record {
  left : into_iter_items l.left ≡ drop (length l.passes.items) l.fn.workers.items;
  count : into_iter_len l.left ≡ length (into_iter_items l.left);
  few : length l.passes.items ≤ length l.fn.workers.items;
  places : length l.fn.workers.items ≤ vec_capacity l.passes;
  each : (k : ℕ) (p : Pass g.row.N.Denot g.N.Entropy) → k < length l.passes.items → Taken l.fn.workers.items k (get_or l.passes.items k p) (λ pass caller. caller.pass ≡ pass);
}

abbrev pub decreases-workers : goal.decreases-workers
decreases-workers g l = into_iter_len l.left
