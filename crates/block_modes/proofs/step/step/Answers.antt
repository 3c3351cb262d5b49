use Rattle.std.proofs.Common.{◌∙◌, ap}
use Rattle.block_modes.proofs.step.step.Goals as goal

pub returns-in-Cbc-true-default-clause-chain : goal.returns-in-Cbc-true-default-clause-chain
returns-in-Cbc-true-default-clause-chain g c =
    rw (c.in-Cbc-true-default.is, c.in-Cbc-true-default.seal-test)
    (c.encrypt-out.ensures ∙ ap (g.C.BlockCipher.cipher c.args.cipher.now) c.xor.ensures)
