use Rattle.std.proofs.Common.{◌≡◌, ◌<◌, ◌≤◌, ℕ, length, get_or, Some}
use Rattle.turn_lock.specs.Passes.{IsClosingOf, Took, made_before}
use Rattle.connection_workers.specs.Workers.{IntakePass, answerer_of, pass_of}
use Rattle.connection_workers.proofs.serving.let_all_out.Given as goal

abbrev pub invariant-passes : goal.invariant-passes
invariant-passes g l = record {
  ours : IsClosingOf l.lock l.closing;
  made : made_before l.closing ≡ made_before l.fn.closing;
  count : length l.workers ≡ length l.fn.workers;
  took : (k : ℕ) (d : _) → k < l.place → (pass : IntakePass _ _) → pass_of (get_or l.fn.workers k d) ≡ Some pass → Took l.closing pass;
  kept : (pass : IntakePass _ _) → Took l.fn.closing pass → Took l.closing pass;
  left : (k : ℕ) (d : _) → l.place ≤ k → pass_of (get_or l.workers k d) ≡ pass_of (get_or l.fn.workers k d);
  same : (k : ℕ) (d : _) → k < length l.fn.workers → answerer_of (get_or l.workers k d) ≡ answerer_of (get_or l.fn.workers k d);
}
