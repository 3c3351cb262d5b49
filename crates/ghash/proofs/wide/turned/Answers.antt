use Rattle.ghash.proofs.Weave.{turned_is}
use Rattle.ghash.proofs.wide.turned.Goals as goal

pub returns-clause-places : goal.returns-clause-places
returns-clause-places c =
    turned_is c.args.x c.woven-once.result c.woven-twice.result c.woven-thrice.result c.woven.result c.woven-once.ensures.places c.woven-twice.ensures.places c.woven-thrice.ensures.places
    c.woven.ensures.places
