use Rattle.std.proofs.Common.{arith, []}
use Rattle.std.proofs.lemmas.Result.{err_from_is_err_and}
use Rattle.std.specs.Map.{values_of}
use Rattle.tag_lists.specs.Reading.{params_at}
use Rattle.tag_lists.proofs.Gathering.{inserts, goes_on, ends, is_done}
use Rattle.tag_lists.proofs.reading.params_at.Goals as goal

pub returns-in_err-param-clause-gives : goal.returns-in_err-param-clause-gives
returns-in_err-param-clause-gives c =
    let p = err_from_is_err_and c.from_residual.result c.from_residual.ensures.1 in
    rw (p.1, p.2) (ends c.in_err-param.field-0.0 c.args.count c.params.counter c.args.total (values_of c.params.params.entries) c.params.rest.now (params_at c.args.count c.args.total [] c.args.bytes.now) c.params-test.true c.in_err-param.ensures.gives c.params.invariant.more)

pub params-preserved : goal.params-preserved
params-preserved c =
    let i = inserts c.in_ok-param.param c.params.params.entries c.insert.new.self.entries c.params.invariant.keyed (rw (← c.rank.ensures) c.in_ok-insert.ensures.entries) in
    record {
      keyed = i.keyed;
      more = rw i.adds (goes_on c.args.count c.params.counter c.args.total (values_of c.params.params.entries) c.params.rest.now c.in_ok-param.param c.in_ok-param.after.now (params_at c.args.count c.args.total [] c.args.bytes.now) c.params-test.true c.in_ok-param.ensures.gives c.params.invariant.more);
      within = omega (arith, c.in_ok-param.ensures.shorter, c.params.invariant.within);
    }

pub returns-clause-gives : goal.returns-clause-gives
returns-clause-gives c = is_done c.args.count c.params.counter c.args.total (values_of c.params.params.entries) c.params.rest.now (params_at c.args.count c.args.total [] c.args.bytes.now) c.params-test.false c.params.invariant.more
