use Rattle.std.proofs.Common.{◌≡◌, ltb, leb, rules, subst, sym, ap, ◌∙◌, take, drop, map, List}
use Rattle.std.specs.List.Sorted.{IsNonDecreasingBy}
use Rattle.std.proofs.lemmas.List.Sorted.{IsPartitionPoint-from_clause, IsPartitionedBy-leb, IsPartitionedBy-ltb, IsNonDecreasingBy-drop}
use Rattle.group_index.specs.declared.index.Grouped.{Grouped}
use Rattle.group_index.specs.Grouped.{number_of}
use Rattle.group_index.proofs.Pairs.{IsEnd, group_of, groups_rise, side_by_side}
use Rattle.group_index.proofs.index.GroupIndex.of.Goals as goal

pub returns : goal.returns
returns c =
    let from = c.partition_point-from.result in
    let count = c.partition_point-count.result in
    let own : c.deref.result.now ≡ c.self.inside.pairs.items = c.deref.ensures.value in
    let rest : c.behind-rest.result.now ≡ drop from c.self.inside.pairs.items = c.behind-rest.ensures ∙ ap (drop from) c.deref-2.ensures.value in
    let rise = groups_rise c.self.inside.pairs.items c.self.invariant in
    let rise_own = subst (IsNonDecreasingBy group_of) (sym own) rise in
    let rise_rest = subst (IsNonDecreasingBy group_of) (sym rest) (IsNonDecreasingBy-drop group_of from c.self.inside.pairs.items rise) in
    let below = IsPartitionPoint-from_clause (λ p. ltb (group_of p) c.args.group) c.deref.result.now from c.partition_point-from.ensures.partitioned (IsPartitionedBy-ltb group_of c.deref.result.now c.args.group rise_own) (λ a r q k. search rules) in
    let within = IsPartitionPoint-from_clause (λ p. leb (group_of p) c.args.group) c.behind-rest.result.now count c.partition_point-count.ensures.partitioned (IsPartitionedBy-leb group_of c.behind-rest.result.now c.args.group rise_rest) (λ a r q k. search rules) in
    rw (← c.self.view_is)
    (ap (map number_of)
    (ap (take count) rest
    ∙ side_by_side c.args.group c.self.inside.pairs.items from count (subst (λ (ps : List Grouped). IsEnd (λ p. ltb (group_of p) c.args.group) ps from) own below) (subst (λ (ps : List Grouped). IsEnd (λ p. leb (group_of p) c.args.group) ps count) rest within)))
