use Rattle.tags.specs.declared.param.ParamValue.TheVariants.{Number}
use Rattle.key_rules.proofs.Lengths.{adds_bytes, adds_one}
use Rattle.key_rules.proofs.kept.set.Goals as goal

pub returns-clause-room : goal.returns-clause-room
returns-clause-room c = adds_one c.with.result (record { tag = c.args.tag; value = Number c.args.number }) c.args.list c.with.ensures.list

pub returns-clause-small : goal.returns-clause-small
returns-clause-small c = adds_bytes c.with.result c.args.tag c.args.number c.args.list c.with.ensures.small
