use Rattle.std.proofs.Common.{◌∙◌}
use Rattle.key_maps.proofs.Entries.{lookup_is}
use Rattle.key_maps.proofs.maps.KeyMaps.numbered.Goals as goal

pub returns : goal.returns
returns c = rw (← c.self.view_is) (c.get.ensures.value ∙ lookup_is c.args.id _ c.self.invariant.numbered)
