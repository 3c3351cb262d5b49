-- The bytes of a generator of 32-bit words over ChaCha with 20 rounds (RFC 8439, section 2.3).
use Rattle.std.specs.Prelude.{ℕ, zero, suc, ◌/◌, ◌%◌, List, slice_index}
use Rattle.std.specs.Int.{w32, to_le_bytes}
use Rattle.rand_chacha.specs.ChaCha.{ChaCha, next_word}

-- the next word of the generator, as four bytes, the lowest first
abbrev pub word_bytes : ChaCha → List ℕ
word_bytes generator = to_le_bytes w32 (next_word 10 generator).0

-- the generator after a number of words
abbrev pub after_words : ℕ → ChaCha → ChaCha
after_words zero generator = generator
after_words (suc count) generator = after_words count (next_word 10 generator).1

-- the bytes of the words to come, one word after the other
unfoldable pub bytes_from : ChaCha → ℕ → ℕ
bytes_from generator place = slice_index (word_bytes (after_words (place / 4) generator)) (place % 4)
