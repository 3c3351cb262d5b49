-- The counter mode under GCM (SP 800-38D sections 6.2 and 6.5), over any block cipher.
use Rattle.std.specs.Prelude.{ℕ, ◌+◌, ◌%◌, ◌^◌, List, [], ◌∷◌, ◌++◌, take, drop, slice_index}
use Rattle.std.specs.Int.{w32, from_be_bytes, to_be_bytes}
use Rattle.std.specs.Int.RustNames.{bit_xor}
use Rattle.gcm_mode.specs.Blocks.{blocks_of}

-- inc32: the last 32 bits of a block as a number, increased by one modulo 2^32 (SP 800-38D section 6.2)
unfoldable pub inc32 : List ℕ → List ℕ
inc32 block = take 12 block ++ to_be_bytes w32 ((from_be_bytes w32 (drop 12 block) + 1) % 2 ^ 32)

-- a string and the leftmost bytes of a block, added bit by bit (SP 800-38D section 6.5, steps 6 and 7)
abbrev pub xor_bytes : List ℕ → List ℕ → List ℕ
xor_bytes [] key = []
xor_bytes (b ∷ bs) key = bit_xor b (slice_index key 0) ∷ xor_bytes bs (drop 1 key)

-- the blocks X 1, .., X n under the counter blocks CB 1, inc32 (CB 1), .. (SP 800-38D section 6.5, steps 5 to 8)
abbrev pub gctr_blocks : (List ℕ → List ℕ) → List ℕ → List (List ℕ) → List ℕ
gctr_blocks cipher counter [] = []
gctr_blocks cipher counter (x ∷ xs) = xor_bytes x (cipher counter) ++ gctr_blocks cipher (inc32 counter) xs

-- GCTR of a string from an initial counter block (SP 800-38D section 6.5)
unfoldable pub gctr : (List ℕ → List ℕ) → List ℕ → List ℕ → List ℕ
gctr cipher icb text = gctr_blocks cipher icb (blocks_of text)
