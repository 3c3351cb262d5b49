use Rattle.std.proofs.Common.{sym, ◌∙◌}
use Rattle.grants.specs.Maps.{start_of}
use Rattle.grants.proofs.Nexts.{first_behind, none_behind}
use Rattle.grants.proofs.maps.GrantMaps.next_after.Goals as goal

pub returns-in-Some : goal.returns-in-Some
returns-in-Some c =
    let between = rw (c.start_of.ensures) at (c.range.ensures.between tt) in
    rw (← c.self.view_is) (sym (first_behind c.args.past c.self.inside.by_number.entries c.next.new.self c.in-Some.field-0-0.now c.in-Some.row.now c.self.invariant.numbered (sym between ∙ c.in-Some.ensures.steps)))

pub returns-in-None : goal.returns-in-None
returns-in-None c =
    let between = rw (c.start_of.ensures) at (c.range.ensures.between tt) in
    rw (← c.self.view_is) (sym (none_behind c.args.past c.self.inside.by_number.entries c.self.invariant.numbered (sym between ∙ (rw c.in-None.is at c.next.ensures.steps).0)))
