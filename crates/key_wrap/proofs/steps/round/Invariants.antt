use Rattle.std.proofs.Common.{◌≡◌}
use Rattle.key_wrap.specs.Wrapping.{parts_in, round, state_of}
use Rattle.key_wrap.proofs.steps.round.Given as goal

abbrev pub invariant-parts : goal.invariant-parts
invariant-parts g l =
    state_of l.value l.parts ≡ round (g.C.BlockCipher.cipher l.cipher) (parts_in l.fn.parts) l.round l.part (state_of l.fn.value l.fn.parts)
