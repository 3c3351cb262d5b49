use Rattle.std.proofs.Common.{◌≡◌}
use Rattle.key_wrap.specs.Wrapping.{parts_in, state_of, unround}
use Rattle.key_wrap.proofs.steps.unround.Given as goal

abbrev pub invariant-parts : goal.invariant-parts
invariant-parts g l =
    unround (g.C.BlockCipher.inverse l.cipher) (parts_in l.fn.parts) l.round l.part (state_of l.value l.parts)
    ≡ unround (g.C.BlockCipher.inverse l.cipher) (parts_in l.fn.parts) l.round (parts_in l.fn.parts) (state_of l.fn.value l.fn.parts)
