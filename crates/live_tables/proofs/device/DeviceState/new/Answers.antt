use Rattle.std.proofs.Common.{refl}
use Rattle.live_tables.proofs.Users.{all_false}
use Rattle.live_tables.proofs.device.DeviceState.new.Goals as goal

pub returns : goal.returns
returns c = record { users = λ user. rw c.in_ok-all_locked.ensures (all_false 42950 user); early = refl }
