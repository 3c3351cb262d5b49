use Rattle.aes_core.specs.Expansion.{key_expansion, round_key}
use Rattle.aes_core.specs.State.{add_round_key}
use Rattle.aes_wide.specs.WideKey.{wide_key_of}
use Rattle.aes_wide.proofs.RowLemmas.{IsOn}
use Rattle.aes_wide.proofs.wide_aes.WideAes.encrypt_one.Given as goal

abbrev pub invariant-rounds : goal.invariant-rounds
invariant-rounds l = IsOn (key_expansion (wide_key_of l.self)) l.done (add_round_key l.fn.x (round_key (key_expansion (wide_key_of l.self)) 0)) l.state
