use Rattle.std.proofs.Common.{subst, sym}
use Rattle.aes_core.specs.Block.{IsBytes}
use Rattle.aes_wide.specs.Planes.{standing, at}
use Rattle.aes_wide.proofs.StepLemmas.{mixed_block, standing_whole}
use Rattle.aes_wide.proofs.planes.mixed.Goals as goal

pub returns-clause-blocks : goal.returns-clause-blocks
returns-clause-blocks c = λ b.
    let bytes : IsBytes (standing c.args.x b) = subst (λ t. IsBytes (standing t b)) (sym c.requires) (standing_whole (at c.args.x) b).bytes in
    rw (c.added.ensures.blocks b, c.doubled-double.ensures.blocks b, c.added-rest.ensures.blocks b, c.turned_twice-far.ensures.blocks b, c.added-pair.ensures.blocks b, c.turned_once-next.ensures.blocks b)
    (mixed_block (standing c.args.x b) bytes)
