use Rattle.key_database.proofs.Compacted.{formatted}
use Rattle.key_database.proofs.database.KeyDatabase.format.Goals as goal

pub returns-clause-formatted : goal.returns-clause-formatted
returns-clause-formatted g c = formatted g.D.Disk c.format.new.disk c.format.result c.format.ensures.formatted
