-- The bytes so far were drawn.
use Rattle.std.proofs.Common.{◌≡◌, take}
use Rattle.ks_outside.specs.Draws.{followed}
use Rattle.ks_outside.proofs.endless.fill.Given as goal

abbrev pub invariant-bytes : goal.invariant-bytes
invariant-bytes g l = g.B.Endless.coming l.fn.bytes ≡ followed (take l.i l.out) (g.B.Endless.coming l.bytes)
