use Rattle.std.proofs.Common.{ltb, leb, rules, subst, sym, ap, ◌∙◌, take}
use Rattle.std.specs.List.Sorted.{IsNonDecreasingBy}
use Rattle.std.proofs.lemmas.List.Sorted.{IsPartitionPoint-from_clause, IsPartitionedBy-leb, IsPartitionedBy-ltb, IsNonDecreasingBy-drop}
use Rattle.tags.specs.Tag.{low_of}
use Rattle.tag_lists.proofs.Lookups.{IsEnd, lows_rise, side_by_side}
use Rattle.tag_lists.proofs.list.of_tag.Goals as goal

pub returns : goal.returns
returns c =
    let from = c.partition_point-from.result in
    let count = c.partition_point-count.result in
    let rise = lows_rise c.args.params.now c.requires.fit c.requires.ordered in
    let rise_behind = subst (IsNonDecreasingBy (λ p. low_of p.tag)) (sym c.behind-rest.ensures) (IsNonDecreasingBy-drop (λ p. low_of p.tag) from c.args.params.now rise) in
    let below = IsPartitionPoint-from_clause (λ p. ltb (low_of p.tag) (low_of c.args.tag)) c.args.params.now from c.partition_point-from.ensures.partitioned (IsPartitionedBy-ltb (λ p. low_of p.tag) c.args.params.now (low_of c.args.tag) rise) (λ a r q k. search rules) in
    let within = IsPartitionPoint-from_clause (λ p. leb (low_of p.tag) (low_of c.args.tag)) c.behind-rest.result.now count c.partition_point-count.ensures.partitioned (IsPartitionedBy-leb (λ p. low_of p.tag) c.behind-rest.result.now (low_of c.args.tag) rise_behind) (λ a r q k. search rules) in
    ap (take count) c.behind-rest.ensures ∙ side_by_side c.args.tag c.args.params.now from count below (subst (λ ps. IsEnd (λ p. leb (low_of p.tag) (low_of c.args.tag)) ps count) c.behind-rest.ensures within)
