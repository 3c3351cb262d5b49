use Rattle.std.proofs.Common.{◌≡◌, ◌-◌}
use Rattle.aes_core.specs.State.{add_round_key}
use Rattle.aes_core.specs.Expansion.{round_key}
use Rattle.aes_core.specs.Cipher.{inv_rounds}
use Rattle.aes_core.proofs.rounds.inverse_by.Given as goal

abbrev pub invariant-rounds : goal.invariant-rounds
invariant-rounds l =
    inv_rounds l.schedule (l.nr - 1 - l.done) l.state ≡ inv_rounds l.schedule (l.nr - 1) (add_round_key l.fn.block (round_key l.schedule l.nr))
