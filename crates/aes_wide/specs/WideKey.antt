-- The key that wide AES stands for.
use Rattle.std.specs.Prelude.{ℕ, List}
use Rattle.aes_core.specs.KeyOf.{key_of}
use Rattle.aes_wide.specs.declared.wide_aes.WideAes.{WideAes}

-- the bytes of the key
abbrev pub wide_key_of : WideAes → List ℕ
wide_key_of aes = key_of aes.plain
