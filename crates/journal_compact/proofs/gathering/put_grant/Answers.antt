-- The row of a grant stands behind what was gathered.
use Rattle.std.proofs.Common.{take, refl, arith, length-drop}
use Rattle.journal_records.specs.declared.record.Record.TheVariants as records
use Rattle.journal_compact.proofs.Adding.{added, row_behind}
use Rattle.journal_compact.proofs.gathering.put_grant.Goals as goal

pub returns-in_default-clause-gathers : goal.returns-in_default-clause-gathers
returns-in_default-clause-gathers g c = λ old at most told is fits. c.in_default.ensures.gathers old at most told is

pub returns-clause-gathers : goal.returns-clause-gathers
returns-clause-gathers g c = λ old at most told is fits.
    added g.D.Disk old c.make_room.new.disk at most c.in-Ok.rows _ c.args.bytes.now _ told (records.HeldGrant c.args.row.now) (c.in-Ok.ensures.gathers old at most told is)
    refl
    (row_behind (records.HeldGrant c.args.row.now) c.in-Ok.rows.count c.frame_grant_into-count.result (take c.in-Ok.rows.count c.args.bytes.now) c.args.bytes.now c.frame_grant_into-count.new.out (omega (arith, c.in-Ok.ensures.room))
    (omega (arith, c.in-Ok.ensures.room, c.frame_grant_into-count.ensures.count, c.frame_grant_into-count.ensures.size, length-drop c.in-Ok.rows.count c.args.bytes.now)) c.frame_grant_into-count.ensures.front refl)
    (omega (arith, fits, c.in-Ok.ensures.end, c.frame_grant_into-count.ensures.count))
