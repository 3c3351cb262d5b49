use Rattle.rule_model.proofs.field_sizes.FieldSizes.of.Goals as goal

pub returns-in-Leave : goal.returns-in-Leave
returns-in-Leave c = rw c.in-Leave.is
