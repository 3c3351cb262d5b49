use Rattle.std.proofs.Common.{rules, subst, Some}
use Rattle.file_disk.specs.Rewriting.{Again}
use Rattle.file_disk.proofs.Pieces.{one_more}
use Rattle.file_disk.proofs.rewriting.write_again.Goals as goal

pub pieces-preserved : goal.pieces-preserved
pieces-preserved g c = one_more g.F.RealFile c.args.from c.pieces.at c.in_ok-count.count c.args.file.now c.pieces.file _ c.pieces.invariant c.in_ok-count.ensures.again
