-- GCM on whole strings (SP 800-38D section 7), over any block cipher, for nonces of 12 bytes and tags of 12 to 16.
use Rattle.std.specs.Prelude.{ℕ, ◌-◌, ◌*◌, ◌%◌, ◌^◌, List, [], ◌∷◌, ◌++◌, length, take, drop, replicate, Option, Some, None, nat_lt, if◌then◌else◌}
use Rattle.std.specs.Int.{w64, to_be_bytes}
use Rattle.std.specs.Str.{bytes_eq}
use Rattle.ghash.specs.Hash.{ghash}
use Rattle.gcm_mode.specs.Blocks.{blocks_of, padded}
use Rattle.gcm_mode.specs.Counter.{inc32, gctr}

-- H: the cipher of the zero block (SP 800-38D section 7.1, step 1)
abbrev pub hash_subkey : (List ℕ → List ℕ) → List ℕ
hash_subkey cipher = cipher (replicate 16 0)

-- J 0 of a nonce of 12 bytes: the nonce and the number 1 in 32 bits (SP 800-38D section 7.1, step 2)
abbrev pub pre_counter : List ℕ → List ℕ
pre_counter nonce = nonce ++ 0 ∷ 0 ∷ 0 ∷ 1 ∷ []

-- what the mode makes of a text, or of a ciphertext, before any tag (SP 800-38D section 7.1, step 3, and 7.2, step 4)
unfoldable pub raw : (List ℕ → List ℕ) → List ℕ → List ℕ → List ℕ
raw cipher nonce text = gctr cipher (inc32 (pre_counter nonce)) text

-- the length of a string in bits, modulo 2^64, in 8 bytes (SP 800-38D section 7.1, step 5)
abbrev pub bit_length : List ℕ → List ℕ
bit_length bytes = to_be_bytes w64 (length bytes * 8 % 2 ^ 64)

-- what is hashed: the additional data and the ciphertext, each padded, and their lengths (SP 800-38D section 7.1,
-- step 5)
abbrev pub hash_input : List ℕ → List ℕ → List ℕ
hash_input aad ciphertext = padded aad ++ padded ciphertext ++ bit_length aad ++ bit_length ciphertext

-- T: the leftmost `tag` bytes of the hash under GCTR from J 0 (SP 800-38D section 7.1, step 6)
unfoldable pub tag_of : (List ℕ → List ℕ) → List ℕ → ℕ → List ℕ → List ℕ → List ℕ
tag_of cipher nonce tag aad ciphertext =
    take tag (gctr cipher (pre_counter nonce) (ghash (hash_subkey cipher) (blocks_of (hash_input aad ciphertext))))

-- authenticated encryption: the ciphertext and then the tag (SP 800-38D section 7.1)
unfoldable pub gcm_seal : (List ℕ → List ℕ) → List ℕ → ℕ → List ℕ → List ℕ → List ℕ
gcm_seal cipher nonce tag aad text = raw cipher nonce text ++ tag_of cipher nonce tag aad (raw cipher nonce text)

-- how many of the bytes to open come before the tag
abbrev pub open_front : ℕ → List ℕ → ℕ
open_front tag sealed = length sealed - tag

-- authenticated decryption of a ciphertext with its tag behind it: the text, or nothing where the tag is not that of
-- the ciphertext (SP 800-38D section 7.2)
unfoldable pub gcm_open : (List ℕ → List ℕ) → List ℕ → ℕ → List ℕ → List ℕ → Option (List ℕ)
gcm_open cipher nonce tag aad sealed =
    if nat_lt (length sealed) tag then None
    else if bytes_eq (tag_of cipher nonce tag aad (take (open_front tag sealed) sealed)) (drop (open_front tag sealed) sealed)
    then Some (raw cipher nonce (take (open_front tag sealed) sealed))
    else None

-- how many bytes of its output a sealing has given out after some text: all of it
abbrev pub seal_front : List ℕ → ℕ
seal_front text = length text

-- the bytes that a sealing has given out after some text
abbrev pub seal_given : (List ℕ → List ℕ) → List ℕ → List ℕ → List ℕ
seal_given cipher nonce text = take (seal_front text) (raw cipher nonce text)

-- the bytes that an opening has given out after some text: all but the last `tag`
abbrev pub open_given : (List ℕ → List ℕ) → List ℕ → ℕ → List ℕ → List ℕ
open_given cipher nonce tag text = take (open_front tag text) (raw cipher nonce text)
