use Rattle.std.proofs.lemmas.Result.{err_from_is_err_and}
use Rattle.tags.proofs.Rulings.{stops}
use Rattle.call_rules.proofs.table.check_user_call.Goals as goal

pub returns-in_err-check-2-clause-first : goal.returns-in_err-check-2-clause-first
returns-in_err-check-2-clause-first c =
    let fault = err_from_is_err_and c.from_residual-in_err-check-2.result c.from_residual-in_err-check-2.ensures.1 in
    let first = rw (c.rule-2.ensures, c.is_user.ensures.user) at c.in_err-check-2.ensures.first in
    rw (fault.1, fault.2, c.in_ok-check.ensures.holds) (stops _ _ _ _ first)
