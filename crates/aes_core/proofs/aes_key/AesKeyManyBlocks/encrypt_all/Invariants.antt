use Rattle.std.proofs.Common.{◌≡◌, ◌++◌, map, take, drop}
use Rattle.aes_core.specs.Cipher.{cipher}
use Rattle.aes_core.specs.KeyOf.{key_of}
use Rattle.aes_core.proofs.aes_key.AesKeyManyBlocks.encrypt_all.Given as goal

abbrev pub invariant-each : goal.invariant-each
invariant-each l = l.blocks ≡ map (cipher (key_of l.self)) (take l.i l.fn.blocks) ++ drop l.i l.fn.blocks
