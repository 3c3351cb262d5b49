use Rattle.keystore_core.proofs.Standing.{few_clients}
use Rattle.keystore_core.proofs.tables.Tables.connect.Goals as goal

pub connect-requires : goal.connect-requires
connect-requires c = few_clients c.args.self.now c.requires
