-- What the parts of a sealing or an opening hold.
use Rattle.std.specs.Prelude.{◌≡◌, ℕ, zero, suc, ◌+◌, ◌*◌, ◌/◌, ◌%◌, ◌^◌, ◌<◌, List, [], ◌∷◌, ◌++◌, length, take, drop, slice_index, nat_lt, if◌then◌else◌}
use Rattle.std.specs.Int.{w32, to_be_bytes}
use Rattle.ghash.specs.Hash.{Holds}
use Rattle.gcm_mode.specs.Blocks.{first_blocks, padded}
use Rattle.gcm_mode.specs.declared.stream.Gctr.{Gctr}
use Rattle.gcm_mode.specs.declared.feed.Feed.{Feed}
use Rattle.gcm_mode.specs.declared.authenticator.Authenticator.{Authenticator}

-- the nonce and a number in 32 bits, modulo 2^32
unfoldable pub counter_block : List ℕ → ℕ → List ℕ
counter_block nonce k = nonce ++ to_be_bytes w32 (k % 2 ^ 32)

-- so many counter blocks from number k on
abbrev pub counter_blocks : List ℕ → ℕ → ℕ → List (List ℕ)
counter_blocks nonce k zero = []
counter_blocks nonce k (suc n) = counter_block nonce k ∷ counter_blocks nonce (k + 1) n

-- byte n of the key stream of a text, whose first counter block has the number 2
abbrev pub key_byte : (List ℕ → List ℕ) → List ℕ → ℕ → ℕ
key_byte cipher nonce n = slice_index (cipher (counter_block nonce (2 + n / 16))) (n % 16)

-- the key stream is at byte n, and its next block is due where n is a block's edge
pub record Streams {C : Type 0} (cipher_of : C → List ℕ → List ℕ) (state : Gctr C) (cipher : List ℕ → List ℕ) (nonce : List ℕ) (n : ℕ) : Type 0 where
  pub same : cipher_of state.cipher ≡ cipher
  pub nonce_is : state.nonce ≡ nonce
  pub nonce_len : length nonce ≡ 12
  pub counter : state.counter ≡ (2 + (n + 15) / 16) % 2 ^ 32
  pub used : state.used ≡ n % 16
  pub key : 0 < n % 16 → state.key_block ≡ cipher (counter_block nonce (2 + n / 16))

-- the key stream is at byte n, and holds that byte's block
pub record IsReady {C : Type 0} (cipher_of : C → List ℕ → List ℕ) (state : Gctr C) (cipher : List ℕ → List ℕ) (nonce : List ℕ) (n : ℕ) : Type 0 where
  pub same : cipher_of state.cipher ≡ cipher
  pub nonce_is : state.nonce ≡ nonce
  pub nonce_len : length nonce ≡ 12
  pub counter : state.counter ≡ (3 + n / 16) % 2 ^ 32
  pub used : state.used ≡ n % 16
  pub key : state.key_block ≡ cipher (counter_block nonce (2 + n / 16))

-- the hash under h has taken the whole blocks of some bytes, and the rest of the bytes waits
pub record Feeds (state : Feed) (h : List ℕ) (bytes : List ℕ) : Type 0 where
  pub hash : Holds state.hash h (first_blocks (length bytes / 16) bytes)
  pub filled : state.filled ≡ length bytes % 16
  pub rest : take (length bytes % 16) state.block ≡ drop (length bytes / 16 * 16) bytes

-- what is hashed before the lengths come: the additional data, which is padded once there is ciphertext
abbrev pub hashed : List ℕ → List ℕ → List ℕ
hashed aad ciphertext = if nat_lt 0 (length ciphertext) then padded aad ++ ciphertext else aad

-- the hash under h has taken the additional data and the ciphertext
pub record Authenticates (state : Authenticator) (h aad ciphertext : List ℕ) : Type 0 where
  pub feed : Feeds state.feed h (hashed aad ciphertext)
  pub begun : state.has_text ≡ nat_lt 0 (length ciphertext)
  pub aad_len : state.aad_len ≡ length aad % 2 ^ 64
  pub text_len : state.text_len ≡ length ciphertext % 2 ^ 64
