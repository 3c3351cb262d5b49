use Rattle.std.proofs.Common.{rules, ap}
use Rattle.turn_lock.proofs.Drawing.{draws_free}
use Rattle.turn_lock.proofs.lock.turns.TurnLock+T+E+K.draw_free.Goals as goal

pub compare_exchange-found-requires : goal.compare_exchange-found-requires
compare_exchange-found-requires g c = (
  search rules,
  search rules,
  draws_free g.T.History.entries g.T.History.maker g.T.History.fits g.T.History.level _ _ _ _ c.peek-served.result _ (search rules) c.requires.idle c.requires.number,
)
