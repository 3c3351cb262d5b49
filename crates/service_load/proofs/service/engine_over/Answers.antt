use Rattle.std.proofs.Common.{◌∙◌}
use Rattle.journal_records.specs.LastingPart.{empty_lasting}
use Rattle.keystore_core.specs.Opening.{is_opened, setup_of}
use Rattle.service_load.proofs.Beginning.{new_engine}
use Rattle.service_load.proofs.service.engine_over.Goals as goal
use Rattle.tags.specs.declared.limits.TheConstants.{MOST_SLOTS}

pub returns-in-Ok-open-clause-new : goal.returns-in-Ok-open-clause-new
returns-in-Ok-open-clause-new g c =
    let device = c.demo-device.result in
    let policy = c.in-Ok.policy in
    let engine = c.in-Ok-open.engine in
    new_engine device policy engine c.demo-device.ensures c.in-Ok.ensures
    (c.in-Ok-open.ensures.stands (setup_of device policy MOST_SLOTS engine) (is_opened device policy MOST_SLOTS engine))
    (c.in-Ok-open.ensures.finds empty_lasting c.in-Ok-format.ensures.formatted (c.in-Ok-format.ensures.goes.telling ∙ c.requires.telling))
