use Rattle.use_rules.proofs.rules.gives_least_length.Goals as goal

pub returns-in-Some : goal.returns-in-Some
returns-in-Some c = rw (← c.in-Some.ensures, c.least_bits.ensures)
