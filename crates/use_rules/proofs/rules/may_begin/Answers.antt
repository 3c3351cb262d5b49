use Rattle.use_rules.proofs.rules.may_begin.Goals as goal

pub returns-else-not-forced : goal.returns-else-not-forced
returns-else-not-forced c = rw (← c.if-has.ensures, c.if-not-forced.false) c.has-else-not-forced.ensures
