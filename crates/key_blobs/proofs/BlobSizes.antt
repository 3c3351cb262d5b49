-- How many bytes a blob has.
use Rattle.std.proofs.Common.{◌≡◌, ℕ, ◌+◌, ◌≤◌, List, ◌++◌, length, length-append, length-take, take, arith}
use Rattle.aes_core.specs.Cipher.{cipher}
use Rattle.gcm_mode.specs.Gcm.{gcm_seal, raw, tag_of}
use Rattle.gcm_mode.proofs.KeyStream.{length-raw}
use Rattle.key_blobs.specs.declared.sealed.Sealed.{Sealed}
use Rattle.key_blobs.specs.Blobs.{START, blob_of}
use Rattle.key_blobs.specs.Text.{text_of, text_size}
use Rattle.key_blobs.proofs.TextLemmas.{text_long}

take_few : (n : ℕ) (bytes : List ℕ) → length (take n bytes) ≤ n
take_few n bytes = omega (arith, length-take n bytes)

tag_few : (key nonce aad ciphertext : List ℕ) → length (tag_of (cipher key) nonce 16 aad ciphertext) ≤ 16
unfolding tag_of
tag_few key nonce aad ciphertext = take_few 16 _

sealed_few : (key nonce aad text : List ℕ) → length nonce ≡ 12 → length (gcm_seal (cipher key) nonce 16 aad text) ≤ length text + 16
unfolding gcm_seal
sealed_few key nonce aad text twelve =
    let made : List ℕ = raw (cipher key) nonce text in
    omega (arith, length-append made (tag_of (cipher key) nonce 16 aad made), length-raw (cipher key) nonce text twelve, tag_few key nonce aad made)

-- 4 bytes of start, 12 of nonce, the text and 16 of tag
pub blob_few : (key nonce : List ℕ) (x : Sealed) → length nonce ≡ 12 → length x.root ≡ 32 → length (blob_of key nonce x) ≤ text_size x + 32
unfolding blob_of
blob_few key nonce x twelve long =
    let sealed : List ℕ = gcm_seal (cipher key) nonce 16 START (text_of x) in
    omega (arith, length-append START (nonce ++ sealed), length-append nonce sealed, twelve, text_long x long, sealed_few key nonce START (text_of x) twelve)
