-- Key expansion (FIPS 197 section 5.2). A word is 4 bytes, and words stand one after another in a list of bytes.
use Rattle.std.specs.Prelude.{ℕ, zero, suc, ◌+◌, ◌-◌, ◌*◌, ◌/◌, ◌%◌, ◌&&◌, if◌then◌else◌, ◌==◌, nat_lt, List, [], ◌∷◌, ◌++◌, length, take, drop, slice_index}
use Rattle.aes_core.specs.Field.{add, x_times, sub_byte}

-- word i of the words in a list of bytes
abbrev pub word : List ℕ → ℕ → List ℕ
word bytes i = take 4 (drop (4 * i) bytes)

-- the word of these bytes
abbrev pub word_of : (ℕ → ℕ) → List ℕ
word_of f = f 0 ∷ f 1 ∷ f 2 ∷ f 3 ∷ []

-- the sum of two words
unfoldable pub add_words : List ℕ → List ℕ → List ℕ
add_words v w = word_of (λ i. add (slice_index v i) (slice_index w i))

-- RotWord: turned left by one byte
unfoldable pub rot_word : List ℕ → List ℕ
rot_word w = word_of (λ i. slice_index w ((i + 1) % 4))

-- SubWord: the S-box of each byte
unfoldable pub sub_word : List ℕ → List ℕ
sub_word w = word_of (λ i. sub_byte (slice_index w i))

-- x^n
unfoldable pub power_of_x : ℕ → ℕ
power_of_x zero = 1
power_of_x (suc n) = x_times (power_of_x n)

-- Rcon[j]: x^(j - 1), and three bytes 0
unfoldable pub round_constant : ℕ → List ℕ
round_constant j = power_of_x (j - 1) ∷ 0 ∷ 0 ∷ 0 ∷ []

-- what is added to word i - nk: the word before word i, changed where nk divides i, and for keys of 8 words also half way
unfoldable pub changed : ℕ → ℕ → List ℕ → List ℕ
changed nk i before =
    if i % nk == 0 then add_words (sub_word (rot_word before)) (round_constant (i / nk))
    else if nk == 8 && i % 8 == 4 then sub_word before
    else before

-- word i, from the words before it: the key's, and then the word nk places back with the word before
unfoldable pub next_word : ℕ → List ℕ → ℕ → List ℕ → List ℕ
next_word nk key i words =
    if nat_lt i nk then word key i
    else add_words (word words (i - nk)) (changed nk i (word words (i - 1)))

-- the words, and the next one
abbrev pub with_next : ℕ → List ℕ → ℕ → List ℕ → List ℕ
with_next nk key i words = words ++ next_word nk key i words

-- the first n words for a key of nk words
unfoldable pub expanded : ℕ → List ℕ → ℕ → List ℕ
expanded nk key zero = []
expanded nk key (suc i) = with_next nk key i (expanded nk key i)

-- the number of words of a key (3.1, Nk)
abbrev pub words_of : List ℕ → ℕ
words_of key = length key / 4

-- the number of rounds for a key (5, Nr)
abbrev pub rounds_of : List ℕ → ℕ
rounds_of key = words_of key + 6

-- the key schedule: 4 words for the start and for each round
unfoldable pub key_expansion : List ℕ → List ℕ
key_expansion key = expanded (words_of key) key (4 * (rounds_of key + 1))

-- the round key of a round: its 4 words
abbrev pub round_key : List ℕ → ℕ → List ℕ
round_key schedule round = take 16 (drop (16 * round) schedule)
