use Rattle.std.proofs.Common.{◌/◌, ◌^◌}
use Rattle.std.proofs.lemmas.Simd.{zip2_splat}
use Rattle.aes_core.proofs.tower.high.Goals as goal

pub returns : goal.returns
returns c = zip2_splat (λ x y. x / 2 ^ y) c.args.x 16 4 c.fits-x.0
