use Rattle.std.proofs.Common.{refl}
use Rattle.ghash.proofs.ChainLemmas.{holds_all}
use Rattle.ghash.proofs.state.Ghash.absorb_groups.Goals as goal

pub returns : goal.returns
returns c = λ h before held. holds_all c.args.self.now _ h before c.args.groups.now held refl c.hash_of_groups-self.ensures
