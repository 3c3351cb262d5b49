use Rattle.rule_model.proofs.Unwrapped.{law_of_wrapped_keys}
use Rattle.rule_model.proofs.law.wrapped_law.Goals as goal

pub returns : goal.returns
returns c = law_of_wrapped_keys
