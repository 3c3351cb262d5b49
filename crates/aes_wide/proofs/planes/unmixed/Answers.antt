use Rattle.std.proofs.Common.{subst, sym}
use Rattle.aes_core.specs.Block.{IsBytes}
use Rattle.aes_wide.specs.Planes.{standing, at}
use Rattle.aes_wide.proofs.StepLemmas.{standing_whole}
use Rattle.aes_wide.proofs.UnmixLemmas.{unmixed_block}
use Rattle.aes_wide.proofs.planes.unmixed.Goals as goal

pub returns-clause-blocks : goal.returns-clause-blocks
returns-clause-blocks c = λ b.
    let bytes : IsBytes (standing c.args.x b) = subst (λ t. IsBytes (standing t b)) (sym c.requires) (standing_whole (at c.args.x) b).bytes in
    rw (c.mixed.ensures.blocks b, c.added-eased.ensures.blocks b, c.doubled-four.ensures.blocks b, c.doubled-twice.ensures.blocks b, c.added-pair.ensures.blocks b, c.turned_twice-far.ensures.blocks b)
    (unmixed_block (standing c.args.x b) bytes)
