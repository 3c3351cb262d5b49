use Rattle.std.proofs.Common.{◌≡◌, ◌<◌, ℕ, length, get_or}
use Rattle.turn_lock.specs.Passes.{made_of, IsMakerOf}
use Rattle.connection_workers.specs.Workers.{IsLetIn, answerer_of}
use Rattle.connection_workers.proofs.serving.let_all_in.Given as goal

abbrev pub invariant-passes : goal.invariant-passes
invariant-passes g l = record {
  ours : IsMakerOf l.lock l.maker;
  made : made_of l.maker ≡ l.place;
  count : length l.workers ≡ length l.fn.workers;
  passes : (k : ℕ) (d : _) → k < l.place → IsLetIn l.lock k (get_or l.workers k d);
  same : (k : ℕ) (d : _) → k < length l.fn.workers → answerer_of (get_or l.workers k d) ≡ answerer_of (get_or l.fn.workers k d);
}
