use Rattle.std.proofs.Common.{subst}
use Rattle.turn_lock.proofs.lock.Locked.end.Goals as goal

pub returns : goal.returns
returns g c =
    let known = g.met.P.EndRule.ends _ _ _ _ _ _ _ c.requires.last c.close_with-closed.ensures.values.2 c.word-made.ensures c.take-slot.ensures.value in
    subst (λ k. g.P.EndRule.ended k c.args.closing.seat.me.0 c.word-made.result c.take-slot.result) c.args.self.named known
