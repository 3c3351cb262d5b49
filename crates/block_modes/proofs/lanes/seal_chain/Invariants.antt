use Rattle.std.proofs.Common.{◌≡◌, ◌++◌, true, false, take, drop}
use Rattle.tags.specs.declared.plan.Plan.TheVariants.{Cbc}
use Rattle.block_modes.specs.Steps.{outs, chain_after}
use Rattle.block_modes.proofs.lanes.seal_chain.Given as goal

abbrev pub invariant-each : goal.invariant-each
invariant-each g l = record {
  made : l.made ≡ outs (g.C.BlockCipher.cipher l.cipher) (g.C.BlockCipher.inverse l.cipher) (Cbc true false) l.fn.chain (take l.i l.texts) ++ drop l.i l.fn.made;
  chain : l.before ≡ chain_after (g.C.BlockCipher.cipher l.cipher) (g.C.BlockCipher.inverse l.cipher) (Cbc true false) l.fn.chain (take l.i l.texts);
}
