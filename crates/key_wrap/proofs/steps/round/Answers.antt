use Rattle.std.proofs.Common.{refl}
use Rattle.key_wrap.specs.Wrapping.{parts_in, round, state_of}
use Rattle.key_wrap.proofs.Turns.{round_turn}
use Rattle.key_wrap.proofs.steps.round.Goals as goal

pub parts-init : goal.parts-init
unfolding round
parts-init g c = refl

pub parts-preserved : goal.parts-preserved
parts-preserved g c =
    round_turn (g.C.BlockCipher.cipher c.args.cipher.now) (parts_in c.args.parts.now) c.args.round c.parts.part c.number_of-number.result c.parts.value c.parts.parts c.step-next.result c.step-next.new.part (state_of c.args.value c.args.parts.now)
    c.number_of-number.ensures c.step-next.ensures.value c.step-next.ensures.part c.parts.invariant
