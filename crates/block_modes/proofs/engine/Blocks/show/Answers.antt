use Rattle.std.proofs.Common.{◌≡◌, ◌≤◌, ◌-◌, ◌++◌, length, take, drop, ap, ◌∙◌, arith, length-take, rules}
use Rattle.block_modes.proofs.SettleLemmas.{counter_out, shown_part, range_is}
use Rattle.block_modes.proofs.engine.Blocks.show.Goals as goal

pub returns-clause-size : goal.returns-clause-size
returns-clause-size g c =
    let whole : length c.step.result.0 ≡ 16 = search rules in
    let few : length c.args.self.now.held ≤ 16 = omega arith in
    let part = shown_part c.step.result.0 c.block.result c.args.self.now.held (g.C.BlockCipher.cipher c.args.self.now.cipher c.args.self.now.chain)
    (c.step.ensures.out ∙ counter_out (g.C.BlockCipher.cipher c.args.self.now.cipher) (g.C.BlockCipher.inverse c.args.self.now.cipher) c.args.self.now.plan c.args.self.now.chain c.block.result c.requires.counter)
    c.block.ensures in
    omega (arith, ap length part, length-take (length c.args.self.now.held) c.step.result.0, whole, few)

pub returns-clause-front : goal.returns-clause-front
returns-clause-front g c =
    let part = shown_part c.step.result.0 c.block.result c.args.self.now.held (g.C.BlockCipher.cipher c.args.self.now.cipher c.args.self.now.chain)
    (c.step.ensures.out ∙ counter_out (g.C.BlockCipher.cipher c.args.self.now.cipher) (g.C.BlockCipher.inverse c.args.self.now.cipher) c.args.self.now.plan c.args.self.now.chain c.block.result c.requires.counter)
    c.block.ensures in
    c.put.ensures.front
    ∙ ap (λ n. take c.args.at c.args.out.now ++ take (n - c.args.skip) (drop c.args.skip c.step.result.0)) c.len.ensures.len
    ∙ ap (λ t. take c.args.at c.args.out.now ++ t) (range_is c.args.skip (length c.args.self.now.held) c.step.result.0 c.requires.part)
    ∙ ap (λ t. take c.args.at c.args.out.now ++ drop c.args.skip t) part
