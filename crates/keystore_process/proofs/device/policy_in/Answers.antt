use Rattle.keystore_process.proofs.Files.{policy_found}
use Rattle.keystore_process.proofs.device.policy_in.Goals as goal

pub returns-in-Some : goal.returns-in-Some
returns-in-Some g c = policy_found g.P.System c.args.system.now c.as_slice.result.now c.policy_of.result (rw c.as_slice.ensures (rw c.in-Some.is at c.in_ok-bytes.ensures.found)) c.policy_of.ensures
