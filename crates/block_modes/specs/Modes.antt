-- The modes of SP 800-38A section 6 on whole texts, over the cipher of a block and its inverse.
use Rattle.std.specs.Prelude.{ℕ, ◌+◌, ◌%◌, ◌^◌, List, [], ◌∷◌, ◌++◌}
use Rattle.std.specs.Int.{w128, to_be_bytes, from_be_bytes}
use Rattle.block_modes.specs.Texts.{blocks_of, all_pieces, xor_bytes}

-- ECB (6.1): each block by itself; with the inverse for the cipher, its decryption
abbrev pub ecb_blocks : (List ℕ → List ℕ) → List (List ℕ) → List ℕ
ecb_blocks cipher [] = []
ecb_blocks cipher (block ∷ blocks) = cipher block ++ ecb_blocks cipher blocks

-- CBC encryption (6.2): each block of text with the cipher text before it, at first the initialization vector
abbrev pub cbc_blocks : (List ℕ → List ℕ) → List ℕ → List (List ℕ) → List ℕ
cbc_blocks cipher before [] = []
cbc_blocks cipher before (block ∷ blocks) = cipher (xor_bytes block before) ++ cbc_blocks cipher (cipher (xor_bytes block before)) blocks

-- CBC decryption (6.2): what the inverse makes of each block of cipher text, with the cipher text before it
abbrev pub cbc_open_blocks : (List ℕ → List ℕ) → List ℕ → List (List ℕ) → List ℕ
cbc_open_blocks inverse before [] = []
cbc_open_blocks inverse before (block ∷ blocks) = xor_bytes (inverse block) before ++ cbc_open_blocks inverse block blocks

-- the next counter block: the whole block as a number, high byte first, and one more modulo 2^128
abbrev pub next_counter : List ℕ → List ℕ
next_counter counter = to_be_bytes w128 ((from_be_bytes w128 counter + 1) % 2 ^ 128)

-- CTR (6.5): each piece with the cipher of its counter block, the last as far as it goes
abbrev pub ctr_pieces : (List ℕ → List ℕ) → List ℕ → List (List ℕ) → List ℕ
ctr_pieces cipher counter [] = []
ctr_pieces cipher counter (piece ∷ pieces) = xor_bytes piece (cipher counter) ++ ctr_pieces cipher (next_counter counter) pieces

-- ECB of the whole blocks of a text
unfoldable pub ecb : (List ℕ → List ℕ) → List ℕ → List ℕ
ecb cipher text = ecb_blocks cipher (blocks_of text)

-- CBC encryption of the whole blocks of a text
unfoldable pub cbc : (List ℕ → List ℕ) → List ℕ → List ℕ → List ℕ
cbc cipher vector text = cbc_blocks cipher vector (blocks_of text)

-- CBC decryption of the whole blocks of a text
unfoldable pub cbc_open : (List ℕ → List ℕ) → List ℕ → List ℕ → List ℕ
cbc_open inverse vector text = cbc_open_blocks inverse vector (blocks_of text)

-- CTR of a text, both ways
unfoldable pub ctr : (List ℕ → List ℕ) → List ℕ → List ℕ → List ℕ
ctr cipher counter text = ctr_pieces cipher counter (all_pieces text)
