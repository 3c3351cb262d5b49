use Rattle.ks_outside.proofs.adapters.ReaderSourceSource.read.Goals as goal

pub returns-clause-answer : goal.returns-clause-answer
returns-clause-answer g c = rw (← c.ok_or-answer.ensures.ok_part) c.ask.ensures.answered
