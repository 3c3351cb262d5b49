-- One more byte was drawn, and all were.
use Rattle.std.proofs.Common.{arith}
use Rattle.std.proofs.lemmas.List.{take_all}
use Rattle.ks_outside.proofs.DrawLaws.{draw_more}
use Rattle.ks_outside.proofs.endless.fill.Goals as goal

pub bytes-preserved : goal.bytes-preserved
bytes-preserved g c = draw_more c.bytes.out c.bytes.i _ _ _ _ (omega arith) c.bytes.invariant c.next_byte.ensures

pub returns : goal.returns
returns g c = rw (take_all c.bytes.i c.bytes.out (omega arith)) at c.bytes.invariant
