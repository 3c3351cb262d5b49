use Rattle.std.proofs.Common.{arith}
use Rattle.keymint_ops.proofs.BlobSizes.{id_few}
use Rattle.keymint_ops.proofs.creation.sealed_as.Goals as goal

pub returns-clause-few : goal.returns-clause-few
returns-clause-few c =
    omega (arith, id_few c.args.plan.app_id c.requires.small.id, id_few c.args.plan.app_bytes c.requires.small.bytes, c.requires.small.listed, c.requires.short)
