use Rattle.std.proofs.Common.{rules, [], ◌∷◌, ◌++◌, ap, ◌∙◌, arith, length, ◌≡◌}
use Rattle.shared_list.proofs.Taking.{takes_first, takes_on}
use Rattle.shared_list.proofs.run.take_in.Goals as goal

pub loop-next-init : goal.loop-next-init
loop-next-init g c =
    let e = c.in-Some.ensures.items ∙ ap (λ r. c.pop.new.self.items ++ r ∷ []) c.in_ok-last.was in
    record { closing = c.last_turn-closing.ensures.closing; made = c.last_turn-closing.ensures.made; taking = takes_first c.args.results.items c.pop.new.self.items _ c.last_turn-closing.result e c.last_turn-closing.ensures.taken }

pub loop-next-preserved : goal.loop-next-preserved
loop-next-preserved g c =
    let t = c.loop-next.invariant.taking in
    let e = c.in-Some-pop.ensures.items ∙ ap (λ r. c.pop-in-loop-next.new.self.items ++ r ∷ []) c.in_ok-next.was in
    record { closing = c.absorb.ensures.closing; made = c.absorb.ensures.made ∙ c.loop-next.invariant.made; taking = takes_on c.args.results.items c.loop-next.results.items c.pop-in-loop-next.new.self.items _ c.loop-next.closing c.absorb.new.closing t e c.absorb.ensures.taken c.absorb.ensures.kept }

pub returns-clause-taken : goal.returns-clause-taken
returns-clause-taken g c items each k lt =
    let none : length c.loop-next.results.items ≡ 0 = search rules in
    c.loop-next.invariant.taking.took items k (omega arith) lt (λ d. each k d lt)
