-- The laws of a block cipher, for wide AES under a key.
use Rattle.std.specs.Prelude.{ℕ, List, ◌≡◌}
use Rattle.aes_core.specs.Block.{IsBlock}
use Rattle.aes_core.specs.Cipher.{cipher, inverse_cipher}
use Rattle.aes_core.specs.Laws.AesLaws.{cipher_keeps_blocks, inverse_keeps_blocks, inverse_undoes_cipher, cipher_undoes_inverse}
use Rattle.aes_wide.specs.WideKey.{wide_key_of}
use Rattle.aes_wide.specs.declared.wide_aes.WideAes.{WideAes}

pub wide_keeps : (aes : WideAes) (block : List ℕ) → IsBlock block → IsBlock (cipher (wide_key_of aes) block)
wide_keeps aes block whole = cipher_keeps_blocks aes.plain block whole

pub wide_inverse_keeps : (aes : WideAes) (block : List ℕ) → IsBlock block → IsBlock (inverse_cipher (wide_key_of aes) block)
wide_inverse_keeps aes block whole = inverse_keeps_blocks aes.plain block whole

pub wide_undoes : (aes : WideAes) (block : List ℕ) → IsBlock block → inverse_cipher (wide_key_of aes) (cipher (wide_key_of aes) block) ≡ block
wide_undoes aes block whole = inverse_undoes_cipher aes.plain block whole

pub wide_redoes : (aes : WideAes) (block : List ℕ) → IsBlock block → cipher (wide_key_of aes) (inverse_cipher (wide_key_of aes) block) ≡ block
wide_redoes aes block whole = cipher_undoes_inverse aes.plain block whole
