use Rattle.std.proofs.Common.{◌<◌, ◌∙◌, ap, sym, arith, length, length-set}
use Rattle.connection_workers.specs.declared.worker.Worker.{Worker}
use Rattle.connection_workers.specs.Workers.{IsLetIn, answerer_of}
use Rattle.connection_workers.proofs.Rounds.{let_in_more, still_more}
use Rattle.connection_workers.proofs.serving.let_all_in.Goals as goal

pub passes-preserved : goal.passes-preserved
passes-preserved g c =
    let at = c.passes in
    let less : at.place < length at.workers = omega (arith, c.passes-test.true, at.invariant.count) in
    let made = c.another-pass.ensures.maker in
    let w = c.let_in.new.self in
    let one : IsLetIn c.args.lock.now at.place w = (c.another-pass.result, c.let_in.ensures.pass, c.another-pass.ensures.pass, c.another-pass.ensures.number ∙ at.invariant.made, c.another-pass.ensures.front) in
    record {
      ours = made.0;
      made = omega (arith, made.1, at.invariant.made);
      count = length-set at.workers at.place w ∙ at.invariant.count;
      passes = let_in_more at.workers at.place w less c.args.lock.now one at.invariant.passes;
      same = still_more at.workers at.place w less c.args.workers.now c.index-workers-place.result c.index-workers-place.is (c.let_in.ensures.answerer ∙ ap (λ (v : Worker _ _ _). answerer_of v) (sym c.index-workers-place.is)) at.invariant.same;
    }

pub returns-clause-passes : goal.returns-clause-passes
returns-clause-passes g c = λ k d less. c.passes.invariant.passes k d (omega (arith, less, c.passes-test.false, c.passes.invariant.count))
