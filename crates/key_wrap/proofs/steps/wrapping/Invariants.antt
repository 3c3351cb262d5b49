use Rattle.std.proofs.Common.{◌≡◌}
use Rattle.key_wrap.specs.Wrapping.{parts_in, rounds, state_of}
use Rattle.key_wrap.proofs.steps.wrapping.Given as goal

abbrev pub invariant-rounds : goal.invariant-rounds
invariant-rounds g l =
    state_of l.value l.parts ≡ rounds (g.C.BlockCipher.cipher l.cipher) (parts_in l.fn.parts) l.number (state_of l.fn.value l.fn.parts)
