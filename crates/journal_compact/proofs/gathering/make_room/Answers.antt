-- What was gathered is written, or a call failed.
use Rattle.std.proofs.Common.{length, take, refl, arith, length-take}
use Rattle.journal_compact.proofs.Adding.{cut, emptied}
use Rattle.journal_compact.proofs.gathering.make_room.Goals as goal

pub returns-in_default-clause-gathers : goal.returns-in_default-clause-gathers
returns-in_default-clause-gathers g c = λ old at most told is.
    cut g.D.Disk old c.args.disk.now c.write_ahead.new.disk at most c.args.rows c.args.bytes.now told is (length (take c.args.rows.count c.args.bytes.now)) (omega (arith, length-take c.args.rows.count c.args.bytes.now))
    c.write_ahead.ensures.torn c.write_ahead.ensures.passes

pub returns-clause-gathers : goal.returns-clause-gathers
returns-clause-gathers g c = λ old at most told is.
    emptied g.D.Disk old c.args.disk.now c.write_ahead.new.disk at most c.args.rows c.args.bytes.now told is _ refl refl c.requires.count c.in-Ok.ensures.ahead c.write_ahead.ensures.torn c.write_ahead.ensures.passes
