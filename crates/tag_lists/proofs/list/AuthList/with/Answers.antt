use Rattle.std.proofs.Common.{◌≡◌, ltb, not, rules, subst, sym, ◌∙◌, arith}
use Rattle.std.specs.List.Sorted.{IsNonDecreasingBy}
use Rattle.std.proofs.lemmas.List.Sorted.{IsPartitionPoint-from_clause, IsPartitionedBy-ltb}
use Rattle.tag_lists.specs.Order.{rank}
use Rattle.tag_lists.specs.Lookups.{is_of, without}
use Rattle.tag_lists.proofs.Lookups.{IsEnd, ranks_rise}
use Rattle.tag_lists.proofs.Edits.{IsInserted, inserted}
use Rattle.tag_lists.proofs.Sizes.{small_filter, small_with}
use Rattle.tag_lists.proofs.list.AuthList.with.Goals as goal

is_inserted : (c : goal.In_ok-insert) → IsInserted c.args.param c.args.self c.insert.new.self.items
is_inserted c =
    let own : c.deref.result.now ≡ c.params.inside.params.items = c.deref.ensures.value in
    let rest : c.params.inside.params.items ≡ without c.args.param.tag c.args.self = c.params.view_is ∙ c.without.ensures.list in
    let rise = subst (IsNonDecreasingBy rank) (sym own) (ranks_rise c.params.inside.params.items c.params.invariant.ordered) in
    let end = IsPartitionPoint-from_clause (λ q. ltb (rank q) (rank c.args.param)) c.deref.result.now c.partition_point-place.result c.partition_point-place.ensures.partitioned (IsPartitionedBy-ltb rank c.deref.result.now (rank c.args.param) rise) (λ a r q k. search rules) in
    inserted c.args.param c.args.self c.params.inside.params.items c.insert.new.self.items c.partition_point-place.result c.requires.fits c.requires.room rest c.params.invariant (rw (← own) c.partition_point-place.ensures.bound) (subst (λ ps. IsEnd (λ q. ltb (rank q) (rank c.args.param)) ps c.partition_point-place.result) own end) c.in_ok-insert.ensures.items

pub invariant_of-result : goal.invariant_of-result
invariant_of-result c = (is_inserted c).canonical

pub returns-clause-list : goal.returns-clause-list
returns-clause-list c = (is_inserted c).is

pub returns-clause-len : goal.returns-clause-len
returns-clause-len c = (is_inserted c).len

pub returns-clause-small : goal.returns-clause-small
returns-clause-small c = rw (is_inserted c).is (omega (
  arith,
  small_with c.args.param (without c.args.param.tag c.args.self),
  small_filter (λ p. not (is_of c.args.param.tag p)) c.args.self,
))
