use Rattle.std.proofs.Common.{arith}
use Rattle.aes_core.proofs.TowerLemmas.{look_is, look_ok}
use Rattle.aes_core.proofs.tower.look.Goals as goal

pub swizzle : goal.swizzle
swizzle c = look_ok c.args.places c.fits-places.0 c.requires

pub returns : goal.returns
returns c = look_is c.args.table c.args.places 0 (omega (arith, c.fits-places.0))
