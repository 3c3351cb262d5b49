use Rattle.keymint_ops.proofs.creation.spelled.Goals as goal

pub returns : goal.returns
returns c = rw c.in_ok-list.ensures.spells
