use Rattle.std.proofs.Common.{◌∙◌}
use Rattle.grants.proofs.Entries.{lookup_is}
use Rattle.grants.proofs.maps.GrantMaps.find.Goals as goal

pub returns : goal.returns
returns c = rw (← c.self.view_is) (c.get.ensures.value ∙ lookup_is c.args.number _ c.self.invariant.numbered)
