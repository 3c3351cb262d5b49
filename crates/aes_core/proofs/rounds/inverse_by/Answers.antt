use Rattle.std.proofs.Common.{◌≡◌, ◌+◌, ◌-◌, arith}
use Rattle.aes_core.specs.State.{add_round_key}
use Rattle.aes_core.specs.Expansion.{round_key}
use Rattle.aes_core.specs.Cipher.{inv_rounds, inverse_by}
use Rattle.aes_core.proofs.RoundLemmas.{inv_rounds_more}
use Rattle.aes_core.proofs.rounds.inverse_by.Goals as goal

pub rounds-preserved : goal.rounds-preserved
rounds-preserved c =
    let one_less : c.args.nr - 1 - c.rounds.done ≡ c.args.nr - 1 - (c.rounds.done + 1) + 1 = omega arith in
    let more = inv_rounds_more c.args.schedule.now (c.args.nr - 1 - (c.rounds.done + 1)) (c.args.nr - 1 - c.rounds.done) c.rounds.state one_less in
    cc

pub returns : goal.returns
unfolding inverse_by inv_rounds
returns c =
    let none_left : c.args.nr - 1 - c.rounds.done ≡ 0 = omega arith in
    let last : c.rounds.state ≡ inv_rounds c.args.schedule.now (c.args.nr - 1) (add_round_key c.args.block (round_key c.args.schedule.now c.args.nr)) =
    rw none_left at c.rounds.invariant in
    cc
