use Rattle.std.proofs.Common.{◌≡◌, ◌≤◌, length, take, arith}
use Rattle.block_modes.proofs.SettleLemmas.{going_put}
use Rattle.block_modes.proofs.engine.Blocks.make_room.Goals as goal

pub returns-then-len-eq16-clause-goes : goal.returns-then-len-eq16-clause-goes
returns-then-len-eq16-clause-goes g c cipher inverse plan nonce text before going =
    let full : length c.args.self.now.held ≡ 16 = omega arith in
    let part : c.args.skip ≤ 16 = omega arith in
    going_put g.C.BlockCipher.cipher g.C.BlockCipher.inverse c.args.self.now c.let_through.new.self cipher inverse plan nonce text c.args.skip before
    (take c.args.at c.args.out.now) (take c.let_through.result c.let_through.new.out) going full part c.let_through.ensures.size c.let_through.ensures.state c.let_through.ensures.front
