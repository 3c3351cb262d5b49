use Rattle.line_members.proofs.PairLemmas.{pairs_step}
use Rattle.script_lines.proofs.params.params_in.Goals as goal

pub pairs-preserved : goal.pairs-preserved
pairs-preserved c =
    rw c.in_ok-push.ensures.items (pairs_step _ _ _ _ _ _ _ _ c.pairs-test.true c.pair-item.is c.pairs.invariant c.in_ok-param.ensures.param c.in_ok-param.ensures.fits)
