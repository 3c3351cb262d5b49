use Rattle.std.proofs.Common.{arith}
use Rattle.disk_model.proofs.image.choice_for.Goals as goal

pub returns-then-number-start-clause-after : goal.returns-then-number-start-clause-after
returns-then-number-start-clause-after c = λ le. absurd (omega (arith, le, c.if-number-start.true))
