use Rattle.std.proofs.Common.{arith}
use Rattle.disk_model.proofs.calls.CallList.with_room.Goals as goal

pub returns-clause-bytes : goal.returns-clause-bytes
returns-clause-bytes c = omega (arith, c.in_ok-with_capacity-2.ensures.len, c.in_ok-with_capacity-2.ensures.capacity)
