use Rattle.std.proofs.Common.{◌≡◌}
use Rattle.aes_core.specs.State.{add_round_key}
use Rattle.aes_core.specs.Expansion.{round_key}
use Rattle.aes_core.specs.Cipher.{rounds}
use Rattle.aes_core.proofs.rounds.cipher_by.Given as goal

abbrev pub invariant-rounds : goal.invariant-rounds
invariant-rounds l = l.state ≡ rounds l.schedule l.done (add_round_key l.fn.block (round_key l.schedule 0))
