use Rattle.aes_core.proofs.TableLemmas.{powers_at}
use Rattle.aes_core.proofs.schedule.power_of_x.Goals as goal

pub returns : goal.returns
returns c = powers_at c.args.exponent c.requires
