use Rattle.cipher_ops.proofs.transform.code_of.Goals as goal

pub returns-in-Padding : goal.returns-in-Padding
returns-in-Padding c = rw c.in-Padding.is
