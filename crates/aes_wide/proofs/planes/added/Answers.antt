use Rattle.std.proofs.Common.{refl}
use Rattle.aes_wide.specs.Planes.{lanes, at}
use Rattle.aes_wide.proofs.StepLemmas.{added_standing}
use Rattle.aes_wide.proofs.planes.added.Goals as goal

pub returns-clause-whole : goal.returns-clause-whole
unfolding lanes
returns-clause-whole c = rw (c.requires.x, c.requires.y) refl

pub returns-clause-blocks : goal.returns-clause-blocks
unfolding lanes
returns-clause-blocks c = λ b. rw (c.requires.x, c.requires.y) (added_standing (at c.args.x) (at c.args.y) b)
