-- The selector stands.
use Rattle.std.proofs.Common.{refl}
use Rattle.journal_compact.proofs.Kept.{copy_settled, turning_fewer}
use Rattle.journal_compact.proofs.areas.Areas.settle_copy.Goals as goal

pub returns-in_default-clause-turned : goal.returns-in_default-clause-turned
returns-in_default-clause-turned g c = λ frame past rows is. turning_fewer g.D.Disk c.args.self.now c.args.disk.now c.sync_ahead.new.disk frame past rows c.sync_ahead.ensures.goes.images is

pub returns-clause-turned : goal.returns-clause-turned
returns-clause-turned g c = λ frame past rows is. copy_settled g.D.Disk c.args.self.now _ c.args.disk.now c.sync_ahead.new.disk frame past rows c.sync_ahead.ensures.goes.images is refl c.requires refl refl
