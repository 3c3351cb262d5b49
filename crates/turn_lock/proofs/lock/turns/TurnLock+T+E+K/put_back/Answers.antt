use Rattle.std.proofs.Common.{Some, None}
use Rattle.turn_lock.proofs.Posing.{open_turn, put_in}
use Rattle.turn_lock.proofs.lock.turns.TurnLock+T+E+K.put_back.Goals as goal

pub returns-clause-full : goal.returns-clause-full
returns-clause-full g c =
    let u = c.args.turn in
    put_in _ _ _ (Some c.args.value) None (open_turn _ c.args.self.now.name u.number u.serves u.single c.requires.ours.named) c.exchange-before.ensures.3
