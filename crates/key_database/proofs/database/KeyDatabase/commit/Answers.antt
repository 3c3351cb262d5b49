use Rattle.std.proofs.Common.{refl}
use Rattle.key_database.proofs.Applied.{commits_done, commits_torn}
use Rattle.journal_records.specs.Commits.{Committed, InDoubt}
use Rattle.key_database.proofs.Steps.{commits_surely}
use Rattle.key_database.proofs.database.KeyDatabase.commit.Goals as goal

pub returns-in-Ok-clause-commits : goal.returns-in-Ok-clause-commits
returns-in-Ok-clause-commits g c before holds =
    commits_done g.D.Disk c.args.self.now _ c.args.disk.now c.write_change.new.disk c.args.change c.requires.settled _ before holds c.in-Ok.ensures.writes c.make.ensures

pub returns-in-Err-clause-commits : goal.returns-in-Err-clause-commits
returns-in-Err-clause-commits g c before holds =
    commits_torn g.D.Disk c.args.self.now _ c.args.disk.now c.write_change.new.disk c.args.change c.requires.settled _ before c.requires.can.0 holds c.in-Err.ensures.writes refl refl

pub returns-in-Ok-clause-surely : goal.returns-in-Ok-clause-surely
returns-in-Ok-clause-surely g c before holds sure told =
    commits_surely g.D.Disk c.args.self.now c.write_change.new.areas c.args.disk.now c.write_change.new.disk c.args.change Committed before c.requires.settled holds (λ kept. c.in-Ok.ensures.surely kept sure told)

pub returns-in-Err-clause-surely : goal.returns-in-Err-clause-surely
returns-in-Err-clause-surely g c before holds sure told =
    commits_surely g.D.Disk c.args.self.now c.write_change.new.areas c.args.disk.now c.write_change.new.disk c.args.change InDoubt before c.requires.settled holds (λ kept. c.in-Err.ensures.surely kept sure told)
