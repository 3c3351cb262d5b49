use Rattle.std.proofs.Common.{refl}
use Rattle.call_rules.proofs.rules.is_user.Goals as goal

pub returns-clause-user : goal.returns-clause-user
returns-clause-user c = refl
