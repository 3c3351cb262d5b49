use Rattle.std.proofs.Common.{◌++◌, take, ap, ◌∙◌}
use Rattle.std.specs.List.{concat}
use Rattle.block_modes.proofs.LaneLemmas.{through_outs}
use Rattle.block_modes.proofs.engine.Blocks.pass.Goals as goal

pub returns-clause-front : goal.returns-clause-front
returns-clause-front g c =
    c.put_blocks.ensures.front
    ∙ ap (λ t. take c.args.at c.args.out.now ++ concat t) c.pass_all-self.ensures.made
    ∙ ap (λ t. take c.args.at c.args.out.now ++ t)
    (through_outs (g.C.BlockCipher.cipher c.args.self.now.cipher) (g.C.BlockCipher.inverse c.args.self.now.cipher) c.args.self.now.plan c.args.self.now.chain c.args.texts.now)
