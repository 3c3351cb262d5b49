-- A text more.
use Rattle.std.proofs.Common.{◌∙◌, arith}
use Rattle.record_areas.proofs.FirstBytes.{fill_turn}
use Rattle.record_areas.proofs.body_length.may_fill.Goals as goal

pub texts-preserved : goal.texts-preserved
texts-preserved c =
    fill_turn c.texts.count c.args.behind c.texts.left c.in-Ok.told.0 c.min.result c.from-whole.result c.texts.rest.now c.in-Ok.told.1.now c.texts-test.true c.in-Ok.ensures.exact c.from-whole.ensures
    (omega (arith, c.if-whole-left.false, c.from-whole.ensures)) c.min.ensures ∙ c.texts.invariant
