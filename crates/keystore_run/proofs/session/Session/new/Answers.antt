use Rattle.std.proofs.Common.{[], refl}
use mathlib.Core.Logic.{∥∥₁_map}
use Rattle.keystore_run.proofs.Tickets.{no_job}
use Rattle.keystore_run.proofs.session.Session.new.Goals as goal

pub invariant_of-result : goal.invariant_of-result
invariant_of-result c = record {
  stands = ∥∥₁_map c.requires (λ idle. record {
    setup = idle.setup;
    past = idle.past;
    stands = idle.stands;
    held = λ ticket. no_job idle.setup idle.past _ _ (idle.none ticket) (c.new.ensures ticket);
  });
}

pub returns-clause-jobs : goal.returns-clause-jobs
returns-clause-jobs c = λ setup ticket. no_job setup [] _ _ refl (c.new.ensures ticket)
