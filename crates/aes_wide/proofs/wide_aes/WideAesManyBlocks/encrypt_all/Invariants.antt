use Rattle.std.proofs.Common.{◌-◌, length}
use Rattle.aes_core.specs.Cipher.{cipher}
use Rattle.aes_wide.specs.WideKey.{wide_key_of}
use Rattle.aes_wide.proofs.GroupLemmas.{IsDone}
use Rattle.aes_wide.proofs.wide_aes.WideAesManyBlocks.encrypt_all.Given as goal

abbrev pub invariant-groups : goal.invariant-groups
invariant-groups l = IsDone (cipher (wide_key_of l.self)) l.done l.fn.blocks l.blocks

abbrev pub decreases-groups : goal.decreases-groups
decreases-groups l = length l.blocks - l.done
