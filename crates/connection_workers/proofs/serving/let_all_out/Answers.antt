use Rattle.std.proofs.Common.{◌<◌, ◌≤◌, ◌∙◌, Option, refl, ap, sym, subst, arith, length, length-set, get_or}
use Rattle.std.proofs.lemmas.List.{get_or_default}
use Rattle.std.specs.Option.{IsSome}
use Rattle.turn_lock.specs.Passes.{IsPassOf}
use Rattle.connection_workers.specs.declared.worker.Worker.{Worker}
use Rattle.connection_workers.specs.Workers.{IntakePass, answerer_of, pass_of}
use Rattle.connection_workers.proofs.Rounds.{left_more, some_same, still_more, took_more}
use Rattle.connection_workers.proofs.serving.let_all_out.Goals as goal

pub let_out-pass-requires : goal.let_out-pass-requires
let_out-pass-requires g c =
    let at = c.passes in
    let x = c.index-workers-place.result in
    let least : at.place ≤ at.place = omega arith in
    let a = c.requires.passes at.place x (omega (arith, c.passes-test.true)) in
    record { some = subst (λ (o : Option (IntakePass _ _)). IsSome o) (sym (at.invariant.left at.place x least ∙ a.1)) refl }

pub absorb-requires-clause-ours : goal.absorb-requires-clause-ours
absorb-requires-clause-ours g c =
    let at = c.passes in
    let x = c.index-workers-place.result in
    let least : at.place ≤ at.place = omega arith in
    let a = c.requires.passes at.place x (omega (arith, c.passes-test.true)) in
    let one = some_same (pass_of (get_or at.workers at.place x)) a.0 c.let_out-pass.result (at.invariant.left at.place x least ∙ a.1) c.let_out-pass.ensures.pass in
    subst (λ (p : IntakePass _ _). IsPassOf c.args.lock.now p) one a.2

pub passes-preserved : goal.passes-preserved
passes-preserved g c =
    let at = c.passes in
    let x = c.index-workers-place.result in
    let w = c.let_out-pass.new.self in
    let less : at.place < length at.workers = omega (arith, c.passes-test.true, at.invariant.count) in
    let least : at.place ≤ at.place = omega arith in
    let out = c.let_out-pass.ensures in
    record {
      ours = c.absorb.ensures.closing;
      made = c.absorb.ensures.made ∙ at.invariant.made;
      count = length-set at.workers at.place w ∙ at.invariant.count;
      took = took_more at.workers at.place w less c.args.workers.now at.closing c.absorb.new.closing c.let_out-pass.result
          (λ d. ap (λ (v : Worker _ _ _). pass_of v) (get_or_default c.args.workers.now at.place d x c.passes-test.true) ∙ (sym (at.invariant.left at.place x least) ∙ out.pass))
          c.absorb.ensures.taken c.absorb.ensures.kept at.invariant.took;
      kept = λ pass took. c.absorb.ensures.kept pass (at.invariant.kept pass took);
      left = left_more at.workers at.place w less c.args.workers.now at.invariant.left;
      same = still_more at.workers at.place w less c.args.workers.now x c.index-workers-place.is (out.answerer ∙ ap (λ (v : Worker _ _ _). answerer_of v) (sym c.index-workers-place.is)) at.invariant.same;
    }
