-- The laws of a block cipher, for AES under a key.
use Rattle.std.specs.Prelude.{ℕ, List, ◌≡◌}
use Rattle.aes_core.specs.Block.{IsBlock}
use Rattle.aes_core.specs.Cipher.{cipher, inverse_cipher, IsKey}
use Rattle.aes_core.specs.KeyOf.{key_of}
use Rattle.aes_core.specs.declared.aes_key.AesKey.{AesKey}
use Rattle.aes_core.specs.Laws.CipherLaws.{cipher_block, inverse_block, cipher_undone, inverse_undone}

pub key_of_is_key : (aes : AesKey) → IsKey (key_of aes)
unfolding key_of
key_of_is_key aes = aes.is_key

pub cipher_keeps_blocks : (aes : AesKey) (block : List ℕ) → IsBlock block → IsBlock (cipher (key_of aes) block)
cipher_keeps_blocks aes block whole = cipher_block (key_of aes) block (key_of_is_key aes) whole

pub inverse_keeps_blocks : (aes : AesKey) (block : List ℕ) → IsBlock block → IsBlock (inverse_cipher (key_of aes) block)
inverse_keeps_blocks aes block whole = inverse_block (key_of aes) block (key_of_is_key aes) whole

pub inverse_undoes_cipher : (aes : AesKey) (block : List ℕ) → IsBlock block → inverse_cipher (key_of aes) (cipher (key_of aes) block) ≡ block
inverse_undoes_cipher aes block whole = cipher_undone (key_of aes) block (key_of_is_key aes) whole

pub cipher_undoes_inverse : (aes : AesKey) (block : List ℕ) → IsBlock block → cipher (key_of aes) (inverse_cipher (key_of aes) block) ≡ block
cipher_undoes_inverse aes block whole = inverse_undone (key_of aes) block (key_of_is_key aes) whole
