use Rattle.std.proofs.Common.{◌≡◌, ℕ, Bool, Option, Some, None}
use Rattle.std.specs.Option.{option_eq}
use Rattle.std.specs.Prelude.{nat_eq}
use Rattle.ks_outside.specs.Adapters.{fills}
use Rattle.ks_outside.proofs.device.filled.Goals as goal

fills_where : (size : ℕ) (answer : Option ℕ) (b : Bool) → b ≡ option_eq nat_eq answer (Some size) → b ≡ fills size answer
fills_where size None b e = e
fills_where size (Some n) b e = e

pub returns-else-eq : goal.returns-else-eq
returns-else-eq c = fills_where c.args.size c.args.answer _ c.if-eq.ensures
