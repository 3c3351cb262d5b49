use Rattle.std.proofs.Common.{◌/◌, ap}
use Rattle.key_wrap.specs.Wrapping.{parts_in, state_of, unwrapping}
use Rattle.key_wrap.proofs.Turns.{unrounds_end, unrounds_turn}
use Rattle.key_wrap.proofs.steps.unwrapping.Goals as goal

pub rounds-preserved : goal.rounds-preserved
rounds-preserved g c =
    unrounds_turn (g.C.BlockCipher.inverse c.args.cipher.now) (parts_in c.args.parts.now) (parts_in c.rounds.parts) c.rounds.number (state_of c.rounds.value c.rounds.parts) _ _
    c.rounds-test.true (ap (λ k. k / 8) c.rounds.auto.parts) c.unround-next.ensures.state c.rounds.invariant

pub returns : goal.returns
unfolding unwrapping
returns g c = record {
  state = unrounds_end (g.C.BlockCipher.inverse c.args.cipher.now) (parts_in c.args.parts.now) c.rounds.number (state_of c.rounds.value c.rounds.parts) _ c.rounds-test.false c.rounds.invariant;
}
