use Rattle.keystore_process.proofs.Files.{secrets_found}
use Rattle.keystore_process.proofs.device.secrets_in.Goals as goal

pub returns-in-Some : goal.returns-in-Some
returns-in-Some g c = secrets_found g.P.System c.args.system.now c.as_slice.result.now c.secrets_of.result (rw c.as_slice.ensures (rw c.in-Some.is at c.in_ok-bytes.ensures.found)) c.secrets_of.ensures
