use Rattle.std.specs.Coded.{Coded-set}
use Rattle.keystore_server.proofs.caller.equal_in_one_way.Goals as goal

pub returns : goal.returns
returns g c = Coded-set g.row.T.coded
