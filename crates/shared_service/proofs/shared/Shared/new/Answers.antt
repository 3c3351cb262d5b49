use Rattle.turn_lock.specs.Passes.{lock_id, name_of}
use Rattle.shared_service.proofs.NewPasses.{has_all, one_name}
use Rattle.shared_service.proofs.shared.Shared.new.Goals as goal

pub open-requires-clause-fits : goal.open-requires-clause-fits
open-requires-clause-fits g c = one_name c.args.engine (g.D.Disk.fault_count c.args.disk) (g.N.Entropy.fault_count c.args.entropy) c.args.entropy c.new-desk.result.name c.name_of-name.result c.new-desk.ensures.name c.name_of-name.ensures

pub returns-in-Ok-open-clause-all : goal.returns-in-Ok-open-clause-all
returns-in-Ok-open-clause-all g c = has_all (lock_id c.in-Ok-open.lock) (name_of c.in-Ok-open.lock) c.args.passes c.add_passes.new.passes.items c.add_passes.ensures.count c.add_passes.ensures.each
