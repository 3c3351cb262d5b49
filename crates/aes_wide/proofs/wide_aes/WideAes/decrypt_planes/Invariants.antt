use Rattle.std.proofs.Common.{◌-◌}
use Rattle.aes_core.specs.Expansion.{key_expansion}
use Rattle.aes_wide.specs.WideKey.{wide_key_of}
use Rattle.aes_wide.proofs.BackLemmas.{IsBack}
use Rattle.aes_wide.proofs.wide_aes.WideAes.decrypt_planes.Given as goal

abbrev pub invariant-rounds : goal.invariant-rounds
invariant-rounds l = IsBack (key_expansion (wide_key_of l.self)) l.count (l.count - 1 - l.done) l.fn.x l.state
