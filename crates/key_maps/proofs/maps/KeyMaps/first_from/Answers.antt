use Rattle.std.proofs.Common.{◌∙◌, sym, subst}
use Rattle.key_maps.specs.First.{IsFirstFrom}
use Rattle.key_maps.proofs.Entries.{lookup_is}
use Rattle.key_maps.proofs.Firsts.{IsFrom, first_found, none_found}
use Rattle.key_maps.proofs.maps.KeyMaps.first_from.Goals as goal

pub returns-in-Some : goal.returns-in-Some
returns-in-Some c =
    rw (← c.self.view_is) (subst (IsFirstFrom _ c.args.start) (sym (c.get.ensures.value ∙ lookup_is c.in-Some.id.now _ c.self.invariant.numbered))
    (first_found c.self.inside c.args.start c.in-Some.field-0-0.now c.in-Some.id.now c.next.new.self c.self.invariant
    (subst (IsFrom c.self.inside c.args.start) c.in-Some.ensures.steps (c.range.ensures.in_range tt))))

pub returns-in-None : goal.returns-in-None
returns-in-None c =
    rw (← c.self.view_is) (none_found c.self.inside c.args.start c.self.invariant
    (subst (IsFrom c.self.inside c.args.start) (rw c.in-None.is at c.next.ensures.steps).0 (c.range.ensures.in_range tt)))
