-- The keyed-hash message authentication code (FIPS 198-1) as functions on lists of bytes, over the
-- hash functions of FIPS 180-4.
use Rattle.std.specs.Prelude.{ℕ, ◌-◌, ◌==◌, List, ◌++◌, length, map, replicate, bit_xor, nat_le, if◌then◌else◌}
use Rattle.sha2.specs.Sha256.{sha224, sha256}
use Rattle.sha2.specs.Sha512.{sha384, sha512}

-- the key's hash function by its digest number: 3 SHA-224, 4 SHA-256, 5 SHA-384, 6 SHA-512
abbrev pub hash_of : ℕ → List ℕ → List ℕ
hash_of digest text =
    if digest == 3 then sha224 text else
    if digest == 4 then sha256 text else
    if digest == 5 then sha384 text else sha512 text

-- B, the block size in bytes (FIPS 180-4, section 1, figure 1)
abbrev pub block_size : ℕ → ℕ
block_size digest = if digest == 3 then 64 else if digest == 4 then 64 else 128

-- L, the length of the hash function's output in bytes (FIPS 180-4, section 1, figure 1)
abbrev pub digest_size : ℕ → ℕ
digest_size digest =
    if digest == 3 then 28 else
    if digest == 4 then 32 else
    if digest == 5 then 48 else 64

-- the bytes with zeros behind them, up to a block (FIPS 198-1, section 4, steps 2 and 3)
abbrev pub zero_padded : ℕ → List ℕ → List ℕ
zero_padded block bytes = bytes ++ replicate (block - length bytes) 0

-- K0, the key as one block; a longer key is hashed first (FIPS 198-1, section 4, steps 1 to 3)
abbrev pub block_key : (List ℕ → List ℕ) → ℕ → List ℕ → List ℕ
block_key hash block key =
    if nat_le (length key) block then zero_padded block key else zero_padded block (hash key)

-- K0 xor ipad, each byte of which is 36 (FIPS 198-1, section 4, step 4)
abbrev pub inner_key : (List ℕ → List ℕ) → ℕ → List ℕ → List ℕ
inner_key hash block key = map (λ b. bit_xor b 0x36) (block_key hash block key)

-- K0 xor opad, each byte of which is 5c (FIPS 198-1, section 4, step 7)
abbrev pub outer_key : (List ℕ → List ℕ) → ℕ → List ℕ → List ℕ
outer_key hash block key = map (λ b. bit_xor b 0x5c) (block_key hash block key)

-- H((K0 xor opad) ‖ H((K0 xor ipad) ‖ text)) (FIPS 198-1, section 4, steps 5 to 9)
abbrev pub hmac_with : (List ℕ → List ℕ) → ℕ → List ℕ → List ℕ → List ℕ
hmac_with hash block key text =
    hash (outer_key hash block key ++ hash (inner_key hash block key ++ text))

-- the message authentication code of a text under a key, by the hash function's digest number
-- (FIPS 198-1, section 4)
unfoldable pub hmac : ℕ → List ℕ → List ℕ → List ℕ
hmac digest key text = hmac_with (hash_of digest) (block_size digest) key text
