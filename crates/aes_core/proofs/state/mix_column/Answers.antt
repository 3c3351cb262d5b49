use Rattle.std.proofs.Common.{arith}
use Rattle.aes_core.proofs.MixLemmas.{mixed_column}
use Rattle.aes_core.proofs.state.mix_column.Goals as goal

pub returns : goal.returns
returns c =
    let m = mixed_column c.args.a c.args.b c.args.c c.args.d (omega arith) (omega arith) (omega arith) (omega arith) in
    cc
