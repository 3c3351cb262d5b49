use Rattle.std.proofs.Common.{◌+◌, List, drop, map, sym, ap, ◌∙◌, rules}
use Rattle.std.proofs.lemmas.List.{drop_more}
use Rattle.group_index.specs.declared.index.Grouped.{Grouped}
use Rattle.group_index.specs.Grouped.{number_of}
use Rattle.operation_slots.specs.Table.{operations_of, without_all}
use Rattle.keystore_core.proofs.Stepped.{none_without}
use Rattle.keystore_core.proofs.connecting.take_all_out.Goals as goal

pub loop-pair-preserved : goal.loop-pair-preserved
loop-pair-preserved c =
    let all = c.args.numbers.now in
    let i = c.loop-pair.pair-index in
    record {
      left = ap (without_all (map number_of (drop (i + 1) all))) c.take_out.ensures.takes_out.operations
          ∙ sym (ap (λ (pairs : List Grouped). without_all (map number_of pairs) (operations_of c.loop-pair.slots)) (drop_more all i (record { group = 0; number = 0 }) (search rules)))
          ∙ c.loop-pair.invariant.left;
      capacity = c.take_out.ensures.takes_out.capacity ∙ c.loop-pair.invariant.capacity;
      fresh = λ number none. none_without _ c.loop-pair.slots c.take_out.new.self c.take_out.ensures.found number (c.loop-pair.invariant.fresh number none);
      later = λ next h. c.take_out.ensures.later next (c.loop-pair.invariant.later next h);
    }
