use Rattle.std.proofs.lemmas.Result.{err_from_is_err_and}
use Rattle.tags.proofs.Rulings.{stops}
use Rattle.step_rules.proofs.table.check_enter.Goals as goal

pub returns-in_err-check-4-clause-first : goal.returns-in_err-check-4-clause-first
returns-in_err-check-4-clause-first c =
    let fault = err_from_is_err_and c.from_residual-in_err-check-4.result c.from_residual-in_err-check-4.ensures.1 in
    let first = rw (c.rule-4.ensures, c.may_take_aad.ensures) at c.in_err-check-4.ensures.first in
    rw (fault.1, fault.2, ← c.are_pieces_short.ensures, c.in_ok-check.ensures.holds, c.in_ok-check-2.ensures.holds, c.in_ok-check-3.ensures.holds) (stops _ _ _ _ first)

pub returns-clause-first : goal.returns-clause-first
returns-clause-first c =
    rw (
      ← c.are_pieces_short.ensures,
      c.in_ok-check.ensures.holds,
      c.in_ok-check-2.ensures.holds,
      c.in_ok-check-3.ensures.holds,
      ← c.may_take_aad.ensures,
      c.in_ok-check-4.ensures.holds,
      ← c.is_total_within.ensures,
      c.in_ok-check-5.ensures.holds,
      ← c.has_whole_text.ensures,
      c.in_ok-check-6.ensures.holds,
    )
