use Rattle.rule_model.proofs.Uses.{law_of_uses}
use Rattle.rule_model.proofs.law.uses_law.Goals as goal

pub returns : goal.returns
returns c = law_of_uses
