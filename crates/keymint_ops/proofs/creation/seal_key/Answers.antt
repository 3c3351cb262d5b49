use Rattle.keymint_ops.proofs.creation.seal_key.Goals as goal

pub returns-clause-blob : goal.returns-clause-blob
returns-clause-blob c = rw c.sealed_as-sealed.ensures.sealed at c.seal.ensures.blob
