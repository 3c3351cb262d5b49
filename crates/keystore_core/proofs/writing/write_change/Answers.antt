use Rattle.keystore_core.proofs.writing.write_change.Goals as goal

pub returns-in-Ok-clause-store : goal.returns-in-Ok-clause-store
returns-in-Ok-clause-store g c = record { holds = λ held h. (c.in-Ok.ensures.commits held h).holds; passes = λ held h. (c.in-Ok.ensures.commits held h).passes; goes = c.in-Ok.ensures.goes; surely = λ held h keeps. c.in-Ok.ensures.surely held h keeps.holds.sure keeps.told }

pub returns-in-Err-clause-store : goal.returns-in-Err-clause-store
returns-in-Err-clause-store g c = record { holds = λ held h. (c.in-Err.ensures.commits held h).holds; passes = λ held h. (c.in-Err.ensures.commits held h).passes; goes = c.in-Err.ensures.goes; surely = λ held h keeps. c.in-Err.ensures.surely held h keeps.holds.sure keeps.told }
