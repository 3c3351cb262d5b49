use Rattle.key_wrap.specs.Wrapping.{parts_in, state_of}
use Rattle.key_wrap.proofs.Turns.{unround_end, unround_turn}
use Rattle.key_wrap.proofs.steps.unround.Goals as goal

pub parts-preserved : goal.parts-preserved
parts-preserved g c =
    unround_turn (g.C.BlockCipher.inverse c.args.cipher.now) (parts_in c.args.parts.now) c.args.round c.parts.part c.number_of-number.result c.parts.value c.parts.parts c.unstep-next.result c.unstep-next.new.part _
    c.parts-test.true c.number_of-number.ensures c.unstep-next.ensures.value c.unstep-next.ensures.part c.parts.invariant

pub returns : goal.returns
returns g c = record {
  state = unround_end (g.C.BlockCipher.inverse c.args.cipher.now) (parts_in c.args.parts.now) c.args.round c.parts.part (state_of c.parts.value c.parts.parts) _ c.parts-test.false c.parts.invariant;
}
