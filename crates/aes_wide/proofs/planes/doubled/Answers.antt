use Rattle.std.proofs.Common.{refl}
use Rattle.aes_wide.specs.Planes.{lanes}
use Rattle.aes_wide.specs.Steps.{double_outs}
use Rattle.aes_wide.proofs.StepLemmas.{doubled_standing}
use Rattle.aes_wide.proofs.planes.doubled.Goals as goal

pub returns-clause-whole : goal.returns-clause-whole
unfolding lanes double_outs
returns-clause-whole c = rw c.doubled_planes.ensures refl

pub returns-clause-blocks : goal.returns-clause-blocks
returns-clause-blocks c = λ b. rw c.doubled_planes.ensures (doubled_standing c.args.x b c.requires)
