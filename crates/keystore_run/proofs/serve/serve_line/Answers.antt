use Rattle.keystore_run.specs.Session.{devices}
use Rattle.keystore_run.proofs.Sessions.{unwritten}
use Rattle.keystore_run.proofs.serve.serve_line.Goals as goal

pub returns-in_default-clause-serves : goal.returns-in_default-clause-serves
returns-in_default-clause-serves g c = λ setup past for. unwritten g.D.Disk g.N.Entropy setup g.K.Sink c.args.written past _ c.args.line.now c.args.sink.now (devices _ _) (devices _ _) (c.in_default.ensures.serves setup past for)

pub returns-in-Ok-write_all-clause-serves : goal.returns-in-Ok-write_all-clause-serves
returns-in-Ok-write_all-clause-serves g c = λ setup past for.
    let goes = c.in-Ok.ensures.serves setup past for in
    record { later = goes.0; text = goes.1; added = c.in-Ok.answer.text; goes_on = goes.2; adds = goes.3; put = rw c.as_slice.ensures at c.in-Ok-write_all.ensures.ok }

pub returns-clause-serves : goal.returns-clause-serves
returns-clause-serves g c = λ setup past for.
    let goes = c.in-Ok.ensures.serves setup past for in
    let wrote = c.in-Err.ensures.err in
    record { later = goes.0; text = goes.1; part = wrote.0; missing = wrote.1; goes_on = goes.2; adds = rw (← wrote.3, c.as_slice.ensures) goes.3; put = wrote.2 }
