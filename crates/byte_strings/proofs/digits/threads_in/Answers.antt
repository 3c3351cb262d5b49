use Rattle.std.proofs.Common.{◌∙◌}
use Rattle.byte_strings.proofs.digits.threads_in.Goals as goal

pub returns-clause-number : goal.returns-clause-number
returns-clause-number c = c.in_ok-count.ensures.number

pub returns-clause-within : goal.returns-clause-within
returns-clause-within c = c.in_ok-count.ensures.within

pub returns-in_err-count-clause-number : goal.returns-in_err-count-clause-number
returns-in_err-count-clause-number c = c.from_residual.ensures ∙ c.in_err-count.ensures.number
