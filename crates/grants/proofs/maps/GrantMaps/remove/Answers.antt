use Rattle.std.proofs.Common.{◌∙◌, sym}
use Rattle.grants.proofs.Entries.{lookup_is}
use Rattle.grants.proofs.Indexed.{removed, removed_rows}
use Rattle.grants.proofs.maps.GrantMaps.remove.Goals as goal

pub returns-in_err-row-clause-found : goal.returns-in_err-row-clause-found
returns-in_err-row-clause-found c =
    rw (← c.self.view_is) (c.from_residual.ensures ∙ sym c.in_err-row.was ∙ c.remove.ensures.value ∙ lookup_is c.args.number _ c.self.invariant.numbered)

pub returns-in_err-row-clause-rows : goal.returns-in_err-row-clause-rows
returns-in_err-row-clause-rows c = rw (← c.self.view_is) (removed_rows c.self.inside c.remove.new.self c.args.number c.self.invariant c.remove.ensures.entries)

pub invariant_of-self-2 : goal.invariant_of-self-2
invariant_of-self-2 c =
    removed c.self.inside c.remove.new.self c.remove-2.new.self c.args.number c.in_ok-row.row c.self.invariant
    (sym (lookup_is c.args.number _ c.self.invariant.numbered) ∙ sym c.remove.ensures.value ∙ c.in_ok-row.was)
    c.remove.ensures.entries c.remove-2.ensures.updates

pub returns-clause-found : goal.returns-clause-found
returns-clause-found c = rw (← c.self.view_is) (sym c.in_ok-row.was ∙ c.remove.ensures.value ∙ lookup_is c.args.number _ c.self.invariant.numbered)

pub returns-clause-rows : goal.returns-clause-rows
returns-clause-rows c = rw (← c.self.view_is) (removed_rows c.self.inside c.remove.new.self c.args.number c.self.invariant c.remove.ensures.entries)
