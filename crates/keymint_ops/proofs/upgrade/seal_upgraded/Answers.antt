use Rattle.keymint_ops.proofs.BlobSizes.{sealable}
use Rattle.keymint_ops.proofs.upgrade.seal_upgraded.Goals as goal

pub seal-requires : goal.seal-requires
seal-requires c = sealable c.args.sealed c.requires.small c.requires.short
