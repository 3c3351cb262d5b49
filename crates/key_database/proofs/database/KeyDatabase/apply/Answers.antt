use Rattle.std.proofs.Common.{refl}
use Rattle.journal_records.specs.Holding.{known}
use Rattle.key_database.specs.Stands.{areas_of}
use Rattle.key_database.proofs.Rereading.{same_holds}
use Rattle.key_database.proofs.Steps.{held_surely, stays_surely}
use Rattle.key_database.proofs.database.KeyDatabase.apply.Goals as goal

pub returns-in-Err-clause-commits : goal.returns-in-Err-clause-commits
returns-in-Err-clause-commits g c before holds =
    c.in-Err.ensures.commits before (same_holds g.D.Disk c.args.self.now _ c.args.disk.now before (record { lasting_is = c.reserve.ensures.same; areas_is = refl; pending_is = refl }) holds)

pub returns-in_default-clause-surely : goal.returns-in_default-clause-surely
returns-in_default-clause-surely g c = λ before h sure told.
    stays_surely g.D.Disk g.met.D.Disk.content_is_image (areas_of c.args.self.now) c.args.disk.now (known before) (held_surely g.D.Disk c.args.self.now c.args.disk.now before c.requires.settled h sure told)
