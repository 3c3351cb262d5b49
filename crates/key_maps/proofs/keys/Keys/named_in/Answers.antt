use Rattle.std.proofs.Common.{sym}
use Rattle.key_maps.proofs.Nexts.{none_wide}
use Rattle.key_maps.proofs.keys.Keys.named_in.Goals as goal

pub returns-in_default : goal.returns-in_default
returns-in_default c = sym (none_wide c.args.domain c.args.nspace c.args.alias.now c.args.self.now.rows c.len.ensures.orderly c.in_default.ensures)
