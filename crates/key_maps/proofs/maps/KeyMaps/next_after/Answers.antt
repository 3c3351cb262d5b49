use Rattle.std.proofs.Common.{sym, ◌∙◌}
use Rattle.key_maps.proofs.Afters.{first_behind, none_behind}
use Rattle.key_maps.proofs.maps.KeyMaps.next_after.Goals as goal

pub returns-in-Some : goal.returns-in-Some
returns-in-Some c =
    let between = rw (c.behind.ensures) at (c.range.ensures.between tt) in
    rw (← c.self.view_is) (sym (first_behind c.args.past c.self.inside.by_id.entries c.next.new.self c.in-Some.field-0-0.now c.in-Some.key.now c.self.invariant.numbered (sym between ∙ c.in-Some.ensures.steps)))

pub returns-in-None : goal.returns-in-None
returns-in-None c =
    let between = rw (c.behind.ensures) at (c.range.ensures.between tt) in
    rw (← c.self.view_is) (sym (none_behind c.args.past c.self.inside.by_id.entries c.self.invariant.numbered (sym between ∙ (rw c.in-None.is at c.next.ensures.steps).0)))
