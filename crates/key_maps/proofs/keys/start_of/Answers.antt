use Rattle.std.proofs.Common.{refl}
use Rattle.key_maps.proofs.keys.start_of.Goals as goal

pub returns-in-Some : goal.returns-in-Some
returns-in-Some c = rw (c.in-Some.is, c.name_of.ensures, c.cut.ensures.front) refl
