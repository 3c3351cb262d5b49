-- The key that a schedule stands for.
use Rattle.std.specs.Prelude.{ℕ, List}
use Rattle.aes_core.specs.Schedules.{key_in}
use Rattle.aes_core.specs.declared.aes_key.AesKey.{AesKey}

-- the bytes of the key
unfoldable pub key_of : AesKey → List ℕ
key_of aes = key_in aes.schedule aes.rounds
