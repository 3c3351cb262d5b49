use Rattle.std.proofs.Common.{◌||◌, ◌==◌, ap}
use Rattle.call_rules.proofs.rules.is_shared.Goals as goal

pub returns-else-is_by_alias : goal.returns-else-is_by_alias
returns-else-is_by_alias c = ap (λ b. b || (c.args.domain == 4)) c.if-is_by_alias.ensures
