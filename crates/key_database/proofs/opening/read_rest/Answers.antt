-- The gate that is shut, and what stands before it.
use Rattle.std.proofs.Common.{Ok, Option, subst}
use Rattle.std.proofs.lemmas.Result.{err_from_is_err_and}
use Rattle.journal_records.specs.declared.record.Record.{Record}
use Rattle.record_areas.specs.Readings.{ReadsOn}
use Rattle.key_database.proofs.Replayed.{rest_ends, rest_fails, rest_on}
use Rattle.key_database.proofs.opening.read_rest.Goals as goal

pub rest-preserved : goal.rest-preserved
rest-preserved g c =
    rest_on g.D.Disk c.args.disk.now c.rest.disk c.next.new.disk c.args.reading.now c.rest.reading c.next.new.self c.in-Some.it c.rest.invariant c.in_ok-it.ensures.whole c.in_ok-it.ensures.still c.in_ok-it.ensures.goes
    (λ start limit kinds past behind. subst (λ (it : Option Record). ReadsOn g.D.Disk c.next.new.self c.next.new.disk start limit kinds past (Ok it)) c.in-Some.is (c.in_ok-it.ensures.reads start limit kinds past behind))

pub returns-in_err-it-clause-rest : goal.returns-in_err-it-clause-rest
returns-in_err-it-clause-rest g c =
    let p = err_from_is_err_and c.from_residual.result c.from_residual.ensures.1 in
    rw (p.1, p.2) (rest_fails g.D.Disk c.args.disk.now c.rest.disk c.next.new.disk c.args.reading.now c.rest.reading c.next.new.self _ c.rest.invariant c.in_err-it.ensures.reads)

pub returns-clause-rest : goal.returns-clause-rest
returns-clause-rest g c =
    rest_ends g.D.Disk c.args.disk.now c.rest.disk c.next.new.disk c.args.reading.now c.rest.reading c.next.new.self c.rest.invariant
    (λ start limit kinds past behind. subst (λ (it : Option Record). ReadsOn g.D.Disk c.next.new.self c.next.new.disk start limit kinds past (Ok it)) c.in_default.is (c.in_ok-it.ensures.reads start limit kinds past behind))
