use Rattle.std.proofs.Common.{arith}
use Rattle.aes_core.proofs.TableLemmas.{doubled_at}
use Rattle.aes_core.proofs.state.x_times.Goals as goal

pub returns : goal.returns
returns c = doubled_at c.args.byte (omega arith)
