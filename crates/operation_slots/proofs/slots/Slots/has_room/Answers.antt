use Rattle.std.proofs.Common.{◌≡◌, length, nat_lt, ap, arith}
use Rattle.operation_slots.specs.Boards.{operations_on}
use Rattle.operation_slots.proofs.Seeing.{open_seen}
use Rattle.operation_slots.proofs.slots.Slots.has_room.Goals as goal

pub returns : goal.returns
returns g c =
    let same : c.len.result ≡ length (operations_on c.self.inside.board) = omega (arith, c.len.ensures, open_seen c.self.inside.board c.self.invariant) in rw (← c.self.view_is) (ap (λ n. nat_lt n c.self.inside.board.capacity) same)
