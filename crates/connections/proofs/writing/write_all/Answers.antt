use Rattle.ks_outside.proofs.Carried.{carried_write_ok}
use Rattle.connections.proofs.Written.{more_written}
use Rattle.connections.proofs.writing.write_all.Goals as goal

pub pieces-preserved : goal.pieces-preserved
pieces-preserved g c =
    let wrote = c.in_ok-count.ensures in
    let more = carried_write_ok g.L.Link _ _ _ _ wrote.bytes wrote.other wrote.cause in
    record { written = more_written g.L.Link _ _ _ _ _ c.in_ok-count.count c.pieces.invariant.written more }
