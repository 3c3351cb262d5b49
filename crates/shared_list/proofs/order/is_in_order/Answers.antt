use Rattle.std.proofs.Common.{rules, below_more, ◌≡◌, ℕ, ◌+◌, ◌≤◌, List, take, get_or, set, arith, ap, sym, subst, ◌∙◌}
use Rattle.std.proofs.lemmas.List.{take_more, take_all, length-take-le}
use Rattle.std.proofs.lemmas.Grind.{get_or_default_zero}
use Rattle.shared_list.specs.declared.list.ListEntry.{ListEntry}
use Rattle.shared_list.proofs.Orders.{IsWalk, next_few, walks_on, strange, untimely, walked, unfinished, parted}
use Rattle.shared_list.proofs.order.is_in_order.Goals as goal

abbrev none : ListEntry
none = record { by = 0; item = 0 }

pub returns-then-by-len-clause-no : goal.returns-then-by-len-clause-no
returns-then-by-len-clause-no c _ =
    let i = c.loop-entry.entry-index in
    let all = c.args.entries.now in
    let w = c.loop-entry.invariant in
    strange c.args.threads c.args.items _ (get_or all i none) _ all (parted all i none (search rules)) (search rules)

pub returns-then-index-entry-clause-no : goal.returns-then-index-entry-clause-no
returns-then-index-entry-clause-no c _ =
    let i = c.loop-entry.entry-index in
    let all = c.args.entries.now in
    let next = c.loop-entry.next.items in
    let by = (get_or all i none).by in
    let w = c.loop-entry.invariant in
    let found : get_or next by c.index.result.now ≡ c.index.result.now = search rules in
    let is : get_or next by 0 ≡ c.index.result.now = sym (get_or_default_zero next by c.index.result.now (search rules)) ∙ found in
    untimely c.args.threads c.args.items _ next (get_or all i none) _ all (parted all i none (search rules)) w (search rules) (λ z. c.if-index-entry.true (sym is ∙ z))

pub overflow_add-index_mut : goal.overflow_add-index_mut
overflow_add-index_mut c =
    let i = c.loop-entry.entry-index in
    let all = c.args.entries.now in
    let next = c.loop-entry.next.items in
    let by = (get_or all i none).by in
    let few = next_few c.args.threads (take i all) next by c.loop-entry.invariant (search rules) in
    let found : get_or next by c.index_mut.result.now ≡ c.index_mut.result.now = search rules in
    let is : get_or next by 0 ≡ c.index_mut.result.now = sym (get_or_default_zero next by c.index_mut.result.now (search rules)) ∙ found in
    let long = length-take-le i all (search rules) in
    let least : c.index_mut.result.now ≤ i = omega (arith, few, is, long) in
    search (rules, least)

pub loop-entry-preserved : goal.loop-entry-preserved
loop-entry-preserved c =
    let i = c.loop-entry.entry-index in
    let all = c.args.entries.now in
    let next = c.loop-entry.next.items in
    let by = (get_or all i none).by in
    let found : get_or next by c.index_mut.result.now ≡ c.index_mut.result.now = search rules in
    let is : get_or next by 0 ≡ c.index_mut.result.now = sym (get_or_default_zero next by c.index_mut.result.now (search rules)) ∙ found in
    let read : get_or next by c.index.result.now ≡ c.index.result.now = search rules in
    let was : get_or next by 0 ≡ c.index.result.now = sym (get_or_default_zero next by c.index.result.now (search rules)) ∙ read in
    let step = walks_on c.args.threads (take i all) next (get_or all i none) c.loop-entry.invariant (search rules) (was ∙ search rules) in
    subst (λ (p : List ListEntry × ℕ). IsWalk c.args.threads p.0 (set next by (p.1 + 1))) (λ j. (sym (take_more all i none (search rules)) j, is j)) step

pub loop-count-init : goal.loop-count-init
loop-count-init c k lt = absurd (omega arith)

pub returns-then-count-items-clause-no : goal.returns-then-count-items-clause-no
returns-then-count-items-clause-no c _ =
    let all = c.args.entries.now in
    let next = c.loop-entry.next.items in
    let whole : take c.loop-entry.entry-index all ≡ all = take_all _ all (search rules) in
    let w = subst (λ (l : List ListEntry). IsWalk c.args.threads l next) whole c.loop-entry.invariant in
    let same : next ≡ c.as_slice-count-items.result.now = search rules in
    unfinished c.args.threads c.args.items all next c.loop-count.count-index w (search rules) (λ z. c.if-count-items.true (sym (ap (λ l. get_or l c.loop-count.count-index 0) same) ∙ z))

pub loop-count-preserved : goal.loop-count-preserved
loop-count-preserved c = below_more _ _ c.loop-count.invariant c.if-count-items.false

pub returns-clause-yes : goal.returns-clause-yes
returns-clause-yes c _ =
    let all = c.args.entries.now in
    let next = c.loop-entry.next.items in
    let whole : take c.loop-entry.entry-index all ≡ all = take_all _ all (search rules) in
    let w = subst (λ (l : List ListEntry). IsWalk c.args.threads l next) whole c.loop-entry.invariant in
    let same : next ≡ c.as_slice-count-items.result.now = search rules in
    walked c.args.threads c.args.items all next w (λ k lt. ap (λ l. get_or l k 0) same ∙ c.loop-count.invariant k (search rules))
