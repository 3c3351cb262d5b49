use Rattle.std.proofs.Common.{◌∙◌, length, ap, arith, rules}
use Rattle.std.proofs.lemmas.Int.{to_z-of_z}
use Rattle.std.specs.Int.{w32}
use mir.Val.{SFits}
use Rattle.keystore_run.proofs.Soaking.{loads_all, loads_none, loads_on}
use Rattle.keystore_run.proofs.soak.serve_load.Goals as goal

pub lines-init : goal.lines-init
lines-init g c = record {
  loading = λ setup for. loads_none g.D.Disk g.N.Entropy setup _ _ _ _ c.new-summary.result for c.new-summary.ensures.summed;
  count = omega (arith, c.requires.few, c.new-summary.ensures.lines);
  entries = omega (arith, c.requires.fresh, c.new-summary.ensures.lines);
}

pub lines-preserved : goal.lines-preserved
lines-preserved g c =
    let next = rw c.in-Some.is at c.in_ok-line.ensures.next in
    let fits : SFits w32 c.number_of.result = search rules in
    record {
      loading = λ setup for.
          let before = c.lines.invariant.loading setup for in
          loads_on g.D.Disk g.N.Entropy setup _ _ _ _ _ _ _ _ _ _ _ _ _ _ _ c.in_ok-answer.answer _ _ before next c.as_bytes.ensures.value
          (c.in_ok-answer.ensures.serves setup before.past before.stands) c.in_ok-answer.ensures.answer
          c.tells_failure.ensures c.if-tells_failure.false (to_z-of_z w32 c.number_of.result fits ∙ c.number_of.ensures) c.as_slice.ensures (c.in_ok-add.ensures.summed _ _ before.summed);
      count = omega (arith, c.lines.invariant.count, ap length next, c.in_ok-add.ensures.lines);
      entries = omega (arith, c.lines.invariant.entries, c.in_ok-answer.ensures.entries, c.in_ok-add.ensures.lines);
    }

pub returns : goal.returns
returns g c = record {
  loaded = λ setup for.
      let none = rw c.in_default.is at c.in_ok-line.ensures.next in
      loads_all g.D.Disk g.N.Entropy setup _ _ _ _ _ _ _ (c.lines.invariant.loading setup for) none.0;
}
