use Rattle.keystore_run.proofs.Soaking.{soaks_all, soaks_front}
use Rattle.keystore_run.proofs.soak.soak.Goals as goal

pub returns-in-Ok-write_all-clause-soaks : goal.returns-in-Ok-write_all-clause-soaks
returns-in-Ok-write_all-clause-soaks g c =
    soaks_all g.K.Sink c.args.seed c.args.lines _ _ _ _ c.in-Ok.ensures.summary c.as_bytes.ensures.value c.in-Ok-write_all.ensures.ok

pub returns-clause-soaks : goal.returns-clause-soaks
returns-clause-soaks g c =
    let wrote = c.in-Err.ensures.err in
    soaks_front g.K.Sink c.args.seed c.args.lines _ _ _ _ wrote.0 wrote.1 c.in-Ok.ensures.summary c.as_bytes.ensures.value wrote.2 wrote.3
