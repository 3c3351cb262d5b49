use Rattle.std.proofs.Common.{◌/◌, refl, ap, arith}
use Rattle.key_wrap.specs.Wrapping.{parts_in, rounds, state_of, wrapping}
use Rattle.key_wrap.proofs.Turns.{rounds_end, rounds_turn}
use Rattle.key_wrap.proofs.steps.wrapping.Goals as goal

pub rounds-init : goal.rounds-init
unfolding rounds
rounds-init g c = refl

pub rounds-preserved : goal.rounds-preserved
rounds-preserved g c =
    rounds_turn (g.C.BlockCipher.cipher c.args.cipher.now) (parts_in c.args.parts.now) (parts_in c.rounds.parts) c.rounds.number (state_of c.rounds.value c.rounds.parts) _ (state_of c.args.value c.args.parts.now)
    (ap (λ k. k / 8) c.rounds.auto.parts) c.round-next.ensures.state c.rounds.invariant

pub returns : goal.returns
unfolding wrapping
returns g c = record {
  state = rounds_end (g.C.BlockCipher.cipher c.args.cipher.now) (parts_in c.args.parts.now) c.rounds.number (state_of c.rounds.value c.rounds.parts) (state_of c.args.value c.args.parts.now)
      (omega (arith, c.rounds-test.false, c.rounds.auto.number-end)) c.rounds.invariant;
}
