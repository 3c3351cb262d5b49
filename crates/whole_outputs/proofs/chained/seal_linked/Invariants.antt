use Rattle.std.proofs.Common.{◌≡◌, ◌++◌, true, false, take, drop}
use Rattle.tags.specs.declared.plan.Plan.TheVariants.{Cbc}
use Rattle.block_modes.specs.Steps.{outs, chain_after}
use Rattle.cipher_ops.specs.Standing.{aes, aes_inverse}
use Rattle.whole_outputs.proofs.chained.seal_linked.Given as goal

abbrev pub invariant-each : goal.invariant-each
invariant-each l = record {
  made : l.made ≡ outs (aes l.cipher) (aes_inverse l.cipher) (Cbc true false) l.fn.before (take l.i l.texts) ++ drop l.i l.fn.made;
  chain : l.last ≡ chain_after (aes l.cipher) (aes_inverse l.cipher) (Cbc true false) l.fn.before (take l.i l.texts);
}
