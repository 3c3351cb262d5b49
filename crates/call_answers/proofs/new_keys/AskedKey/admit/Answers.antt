use Rattle.lasting_table.specs.TableView.{lasting_in}
use Rattle.call_answers.proofs.NewKeySources.{material_short}
use Rattle.call_answers.proofs.new_keys.AskedKey.admit.Goals as goal

pub returns-clause-short : goal.returns-clause-short
returns-clause-short c =
    rw c.in_ok-facts.ensures.material
    (material_short c.args.device.now c.args.policy.now (lasting_in c.args.table.now) c.args.caller c.args.self.source (rw c.in_ok-facts.ensures.facts at c.in-Ok.ensures.fit).short)
