use Rattle.aes_core.specs.Expansion.{key_expansion}
use Rattle.aes_wide.specs.WideKey.{wide_key_of}
use Rattle.aes_wide.proofs.GroupLemmas.{IsGoing}
use Rattle.aes_wide.proofs.wide_aes.WideAes.encrypt_planes.Given as goal

abbrev pub invariant-rounds : goal.invariant-rounds
invariant-rounds l = IsGoing (key_expansion (wide_key_of l.self)) l.done l.fn.x l.state
