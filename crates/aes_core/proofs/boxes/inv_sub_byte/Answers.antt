use Rattle.std.proofs.Common.{arith}
use Rattle.aes_core.proofs.TableLemmas.{inv_s_box_at}
use Rattle.aes_core.proofs.boxes.inv_sub_byte.Goals as goal

pub returns : goal.returns
returns c = inv_s_box_at c.args.byte (omega arith)
