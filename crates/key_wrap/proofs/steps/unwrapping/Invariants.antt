use Rattle.std.proofs.Common.{◌≡◌}
use Rattle.key_wrap.specs.Wrapping.{parts_in, state_of, unrounds}
use Rattle.key_wrap.proofs.steps.unwrapping.Given as goal

abbrev pub invariant-rounds : goal.invariant-rounds
invariant-rounds g l =
    unrounds (g.C.BlockCipher.inverse l.cipher) (parts_in l.fn.parts) l.number (state_of l.value l.parts)
    ≡ unrounds (g.C.BlockCipher.inverse l.cipher) (parts_in l.fn.parts) 6 (state_of l.fn.value l.fn.parts)
