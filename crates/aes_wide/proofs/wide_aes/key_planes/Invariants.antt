use Rattle.aes_core.specs.KeyOf.{key_of}
use Rattle.aes_wide.proofs.GroupLemmas.{IsFilled}
use Rattle.aes_wide.proofs.wide_aes.key_planes.Given as goal

abbrev pub invariant-each : goal.invariant-each
invariant-each l = IsFilled l.r l.keys (key_of l.plain)
