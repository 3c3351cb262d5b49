use Rattle.std.proofs.Common.{arith}
use Rattle.aes_core.proofs.TableLemmas.{s_box_at}
use Rattle.aes_core.proofs.boxes.sub_byte.Goals as goal

pub returns : goal.returns
returns c = s_box_at c.args.byte (omega arith)
