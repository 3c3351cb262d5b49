use Rattle.std.proofs.Common.{refl}
use Rattle.keystore_server.proofs.service.ended_without_memory.Goals as goal

pub returns : goal.returns
returns g c = refl
