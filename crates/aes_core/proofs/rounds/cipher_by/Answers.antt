use Rattle.std.proofs.Common.{◌≡◌, ◌-◌, arith}
use Rattle.aes_core.specs.State.{add_round_key}
use Rattle.aes_core.specs.Expansion.{round_key}
use Rattle.aes_core.specs.Cipher.{rounds, cipher_by}
use Rattle.aes_core.proofs.RoundLemmas.{rounds_more}
use Rattle.aes_core.proofs.rounds.cipher_by.Goals as goal

pub rounds-init : goal.rounds-init
unfolding rounds
rounds-init c = cc

pub rounds-preserved : goal.rounds-preserved
rounds-preserved c = let more = rounds_more c.args.schedule.now c.rounds.done (add_round_key c.args.block (round_key c.args.schedule.now 0)) in cc

pub returns : goal.returns
unfolding cipher_by
returns c = let all : c.rounds.done ≡ c.args.nr - 1 = omega arith in cc
