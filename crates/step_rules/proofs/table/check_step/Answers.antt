use Rattle.std.proofs.lemmas.Result.{err_from_is_err_and}
use Rattle.step_rules.specs.Table.{answer}
use Rattle.step_rules.proofs.table.check_step.Goals as goal

pub returns-in_err-check_enter-clause-first : goal.returns-in_err-check_enter-clause-first
unfolding answer
returns-in_err-check_enter-clause-first c =
    let fault = err_from_is_err_and c.from_residual-in_err-check_enter.result c.from_residual-in_err-check_enter.ensures.1 in
    rw (fault.1, fault.2, c.in_ok-check_call.ensures.own, c.in_ok-check_call.ensures.idle, ← c.if-is_enter.ensures) c.in_err-check_enter.ensures.first
