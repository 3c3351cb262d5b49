use Rattle.std.proofs.Common.{inl, inr}
use Rattle.keystore_process.proofs.device.device_here.Goals as goal

pub returns-in-Err : goal.returns-in-Err
returns-in-Err g c = inl c.in-Err.ensures

pub returns-in-Err-policy_in : goal.returns-in-Err-policy_in
returns-in-Err-policy_in g c = inr c.in-Err-policy_in.ensures
