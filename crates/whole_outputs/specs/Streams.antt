-- The key stream of a counter mode, byte by byte.
use Rattle.std.specs.Prelude.{◌≡◌, ℕ, zero, suc, ◌/◌, ◌%◌, List, [], ◌∷◌, slice_index}
use Rattle.aes_core.specs.Cipher.{cipher}
use Rattle.aes_wide.specs.WideKey.{wide_key_of}
use Rattle.block_modes.specs.Modes.{next_counter}
use Rattle.gcm_mode.specs.Counter.{inc32}
use Rattle.whole_outputs.specs.declared.key_stream.Counting.{Counting}
use Rattle.whole_outputs.specs.declared.key_stream.Counting.TheVariants.{Whole, Last}
use Rattle.whole_outputs.specs.declared.key_stream.KeyStream.{KeyStream}

-- the counter block behind another: of CTR as a whole, of GCM in its last 32 bits
abbrev pub next_of : Counting → List ℕ → List ℕ
next_of Whole block = next_counter block
next_of Last block = inc32 block

-- the counter block so many behind another
abbrev pub raised : (List ℕ → List ℕ) → ℕ → List ℕ → List ℕ
raised next zero block = block
raised next (suc n) block = raised next n (next block)

-- so many counter blocks from a first one on
abbrev pub counters : (List ℕ → List ℕ) → ℕ → List ℕ → List (List ℕ)
counters next zero block = []
counters next (suc n) block = block ∷ counters next n (next block)

-- byte n of the key stream under a key, from a first counter block on
abbrev pub key_byte : List ℕ → Counting → List ℕ → ℕ → ℕ
key_byte key counting first n = slice_index (cipher key (raised (next_of counting) (n / 16) first)) (n % 16)

-- The stream under a key, from a first counter block on, is at byte n.
pub record Streams (state : KeyStream) (key : List ℕ) (counting : Counting) (first : List ℕ) (n : ℕ) : Type 0 where
  pub key_is : wide_key_of state.cipher ≡ key
  pub counting_is : state.counting ≡ counting
  pub counter_is : state.counter ≡ raised (next_of counting) (n / 16) first
  pub used_is : state.used ≡ n % 16
