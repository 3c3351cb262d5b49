-- Three writes, each torn or not.
use Rattle.journal_compact.proofs.Formed.{formed_ok, reform_one, reform_passes_one, reform_passes_three, reform_passes_two, reform_three, reform_two}
use Rattle.journal_compact.proofs.areas.Areas.format.Goals as goal

pub returns-in_default-clause-passes : goal.returns-in_default-clause-passes
returns-in_default-clause-passes g c = reform_passes_one g.D.Disk c.args.disk.now c.write_synced.new.disk c.write_synced.ensures.passes

pub returns-in_default-clause-torn : goal.returns-in_default-clause-torn
returns-in_default-clause-torn g c = λ image left. reform_one g.D.Disk c.args.disk.now image (c.write_synced.ensures.torn image left)

pub returns-in_default-write_synced-clause-passes : goal.returns-in_default-write_synced-clause-passes
returns-in_default-write_synced-clause-passes g c =
    reform_passes_two g.D.Disk c.args.disk.now c.write_synced.new.disk c.write_synced-2.new.disk c.write_synced.ensures.torn c.write_synced.ensures.passes c.write_synced-2.ensures.passes

pub returns-in_default-write_synced-clause-torn : goal.returns-in_default-write_synced-clause-torn
returns-in_default-write_synced-clause-torn g c = λ image left. reform_two g.D.Disk c.args.disk.now c.write_synced.new.disk c.write_synced.ensures.torn image (c.write_synced-2.ensures.torn image left)

pub returns-clause-formatted : goal.returns-clause-formatted
returns-clause-formatted g c =
    formed_ok g.D.Disk c.args.disk.now c.write_synced.new.disk c.write_synced-2.new.disk c.write_synced-3.new.disk c.write_synced-3.result c.in-Ok.ensures.written c.in-Ok-write_synced.ensures.written c.write_synced-3.ensures.written

pub returns-clause-passes : goal.returns-clause-passes
returns-clause-passes g c =
    reform_passes_three g.D.Disk c.args.disk.now c.write_synced.new.disk c.write_synced-2.new.disk c.write_synced-3.new.disk c.write_synced.ensures.torn c.write_synced-2.ensures.torn
    c.write_synced.ensures.passes c.write_synced-2.ensures.passes c.write_synced-3.ensures.passes

pub returns-clause-torn : goal.returns-clause-torn
returns-clause-torn g c = λ image left.
    reform_three g.D.Disk c.args.disk.now c.write_synced.new.disk c.write_synced-2.new.disk c.write_synced.ensures.torn c.write_synced-2.ensures.torn image (c.write_synced-3.ensures.torn image left)
