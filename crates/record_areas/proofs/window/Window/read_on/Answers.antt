-- A piece more, and the last one.
use Rattle.std.proofs.Common.{◌+◌, arith, refl}
use Rattle.record_areas.proofs.Seeing.{reading_ended, reading_on}
use Rattle.record_areas.proofs.window.Window.read_on.Goals as goal

pub returns-then-read-eq0-clause-enough : goal.returns-then-read-eq0-clause-enough
returns-then-read-eq0-clause-enough g c = λ seen.
    reading_ended g.D.Disk c.args.disk.now c.pieces.disk c.read_piece.new.disk c.args.self.now c.pieces.self (record c.pieces.self { bytes = c.read_piece.new.bytes }) (c.pieces.self.place + c.len-in-pieces.result) c.min-most.result
    c.in_ok-read.read c.args.count c.pieces.invariant refl refl refl (omega (arith, c.len-in-pieces.ensures)) (λ none. omega (arith, c.min-most.ensures, none)) c.if-read-eq0.true c.in_ok-read.ensures.bytes
    c.in_ok-read.ensures.goes.images seen

pub pieces-preserved : goal.pieces-preserved
pieces-preserved g c =
    reading_on g.D.Disk c.args.disk.now c.pieces.disk c.read_piece.new.disk c.args.self.now c.pieces.self _ (c.pieces.self.place + c.len-in-pieces.result) c.min-most.result c.in_ok-read.read
    c.pieces.invariant refl refl refl (omega (arith, c.len-in-pieces.ensures)) (omega (arith, c.min-most.ensures)) c.in_ok-read.ensures.more.0 c.in_ok-read.ensures.more.1 c.in_ok-read.ensures.front
    c.in_ok-read.ensures.bytes c.in_ok-read.ensures.still c.in_ok-read.ensures.goes
