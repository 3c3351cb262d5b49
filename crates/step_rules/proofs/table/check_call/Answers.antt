use Rattle.std.proofs.lemmas.Bool.{not-true}
use Rattle.step_rules.proofs.table.check_call.Goals as goal

pub returns-clause-first : goal.returns-clause-first
returns-clause-first c = rw (c.in_ok-check.ensures.holds, c.in_ok-check-2.ensures.holds)

pub returns-clause-idle : goal.returns-clause-idle
returns-clause-idle c = not-true c.args.facts.now.busy c.in_ok-check-2.ensures.holds
