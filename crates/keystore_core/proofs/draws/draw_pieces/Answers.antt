use Rattle.std.proofs.Common.{arith}
use Rattle.keystore_core.proofs.Drawn.{both_drawn}
use Rattle.keystore_core.proofs.draws.draw_pieces.Goals as goal

pub returns-clause-draws : goal.returns-clause-draws
returns-clause-draws g c = both_drawn g.N.Entropy _ _ _ c.draw_piece.new.piece c.draw_piece-2.new.piece _ (omega (arith, c.draw_piece.ensures.len, c.draw_piece-2.ensures.len)) c.in-Ok.ensures.ok c.in-Ok-draw_piece.ensures.ok
