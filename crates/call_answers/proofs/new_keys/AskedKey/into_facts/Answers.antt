use Rattle.std.proofs.Common.{ap, ◌∙◌}
use Rattle.lasting_table.specs.TableView.{lasting_in}
use Rattle.rule_model.specs.NewFacts.{new_facts}
use Rattle.call_answers.specs.Creating.{source_of}
use Rattle.call_answers.proofs.NewKeySources.{read_as}
use Rattle.call_answers.proofs.new_keys.AskedKey.into_facts.Goals as goal

pub returns-clause-facts : goal.returns-clause-facts
returns-clause-facts c =
    let asked = c.args.self in
    let is = c.in_ok-import.ensures in
    let own = c.in_ok-import.field-0 in
    c.new_facts-facts.ensures own.material
    ∙ ap (λ s. new_facts c.args.device.now c.args.policy.now c.args.caller asked.key asked.params s c.args.early_ended)
    (read_as own.import own.wrapped own.material (source_of c.args.device.now c.args.policy.now (lasting_in c.args.table.now) c.args.caller asked)
    is.import_is is.wrapped_is is.material_is)
