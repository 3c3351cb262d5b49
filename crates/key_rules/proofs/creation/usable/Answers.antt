use Rattle.std.proofs.Common.{◌∙◌, sym}
use Rattle.key_rules.proofs.Keys.{usable_key}
use Rattle.key_rules.proofs.creation.usable.Goals as goal

pub returns-clause-key : goal.returns-clause-key
returns-clause-key c e = usable_key c.args.list.now c.args.length c.check_key.result c.check_key.ensures.size c.check_key.ensures.digest (sym c.is_ok.ensures.value ∙ e)
