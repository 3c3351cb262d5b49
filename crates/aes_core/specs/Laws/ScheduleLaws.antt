-- The key schedule of a key is of bytes.
use Rattle.std.proofs.Common.{ℕ, zero, suc, ◌+◌, ◌-◌, ◌*◌, ◌/◌, ◌%◌, ◌<◌, ◌==◌, nat_lt, cond, ◌&&◌, List, [], ◌∷◌, ◌++◌, take, drop, get_or, sym, subst, lit<}
use Rattle.std.proofs.lemmas.List.{get_or-drop}
use Rattle.std.proofs.lemmas.Bool.{cond_both}
use Rattle.aes_core.specs.Block.{IsBytes}
use Rattle.aes_core.specs.Field.{add, sub_byte}
use Rattle.aes_core.specs.Expansion.{word, word_of, add_words, rot_word, sub_word, power_of_x, round_constant, changed, next_word, expanded, words_of, rounds_of, key_expansion, round_key}
use Rattle.aes_core.specs.Laws.FieldLaws.{sub_byte_byte, x_times_byte, sum_byte}
use Rattle.aes_core.specs.Laws.StateLaws.{bytes_cons, bytes_none}

pub bytes_take : (n : ℕ) (xs : List ℕ) → IsBytes xs → IsBytes (take n xs)
bytes_take zero xs h i = lit< tt
bytes_take (suc n) [] h i = lit< tt
bytes_take (suc n) (x ∷ xs) h zero = h 0
bytes_take (suc n) (x ∷ xs) h (suc i) = bytes_take n xs (λ k. h (suc k)) i

pub bytes_drop : (n : ℕ) (xs : List ℕ) → IsBytes xs → IsBytes (drop n xs)
bytes_drop n xs h i = let P : ℕ → Type 0 = λ b. b < 256 in subst P (sym (get_or-drop n xs i 0)) (h (n + i))

pub bytes_append : (xs ys : List ℕ) → IsBytes xs → IsBytes ys → IsBytes (xs ++ ys)
bytes_append [] ys h k i = k i
bytes_append (x ∷ xs) ys h k zero = h 0
bytes_append (x ∷ xs) ys h k (suc i) = bytes_append xs ys (λ j. h (suc j)) k i

word_of_bytes : (f : ℕ → ℕ) → ((i : ℕ) → f i < 256) → IsBytes (word_of f)
word_of_bytes f h =
    bytes_cons (f 0) (f 1 ∷ f 2 ∷ f 3 ∷ []) (h 0)
    (bytes_cons (f 1) (f 2 ∷ f 3 ∷ []) (h 1)
    (bytes_cons (f 2) (f 3 ∷ []) (h 2)
    (bytes_cons (f 3) [] (h 3) bytes_none)))

add_words_bytes : (v w : List ℕ) → IsBytes v → IsBytes w → IsBytes (add_words v w)
unfolding add_words
add_words_bytes v w hv hw = word_of_bytes (λ i. add (get_or v i 0) (get_or w i 0)) (λ i. sum_byte (get_or v i 0) (get_or w i 0) (hv i) (hw i))

sub_word_bytes : (w : List ℕ) → IsBytes w → IsBytes (sub_word w)
unfolding sub_word
sub_word_bytes w h = word_of_bytes (λ i. sub_byte (get_or w i 0)) (λ i. sub_byte_byte (get_or w i 0) (h i))

rot_word_bytes : (w : List ℕ) → IsBytes w → IsBytes (rot_word w)
unfolding rot_word
rot_word_bytes w h = word_of_bytes (λ i. get_or w ((i + 1) % 4) 0) (λ i. h ((i + 1) % 4))

power_byte : (n : ℕ) → power_of_x n < 256
unfolding power_of_x
power_byte zero = lit< tt
power_byte (suc n) = x_times_byte (power_of_x n) (power_byte n)

constant_bytes : (j : ℕ) → IsBytes (round_constant j)
unfolding round_constant
constant_bytes j =
    bytes_cons (power_of_x (j - 1)) (0 ∷ 0 ∷ 0 ∷ []) (power_byte (j - 1))
    (bytes_cons 0 (0 ∷ 0 ∷ []) (lit< tt) (bytes_cons 0 (0 ∷ []) (lit< tt) (bytes_cons 0 [] (lit< tt) bytes_none)))

changed_bytes : (nk i : ℕ) (before : List ℕ) → IsBytes before → IsBytes (changed nk i before)
unfolding changed
changed_bytes nk i before h =
    cond_both (i % nk == 0) (add_words (sub_word (rot_word before)) (round_constant (i / nk))) (cond (nk == 8 && i % 8 == 4) (sub_word before) before) IsBytes
    (λ _. add_words_bytes (sub_word (rot_word before)) (round_constant (i / nk)) (sub_word_bytes (rot_word before) (rot_word_bytes before h)) (constant_bytes (i / nk)))
    (λ _. cond_both (nk == 8 && i % 8 == 4) (sub_word before) before IsBytes (λ _. sub_word_bytes before h) (λ _. h))

word_bytes : (xs : List ℕ) (i : ℕ) → IsBytes xs → IsBytes (word xs i)
word_bytes xs i h = bytes_take 4 (drop (4 * i) xs) (bytes_drop (4 * i) xs h)

next_word_bytes : (nk : ℕ) (key : List ℕ) (i : ℕ) (words : List ℕ) → IsBytes key → IsBytes words → IsBytes (next_word nk key i words)
unfolding next_word
next_word_bytes nk key i words hk hw =
    cond_both (nat_lt i nk) (word key i) (add_words (word words (i - nk)) (changed nk i (word words (i - 1)))) IsBytes
    (λ _. word_bytes key i hk)
    (λ _. add_words_bytes (word words (i - nk)) (changed nk i (word words (i - 1))) (word_bytes words (i - nk) hw) (changed_bytes nk i (word words (i - 1)) (word_bytes words (i - 1) hw)))

pub expanded_bytes : (nk : ℕ) (key : List ℕ) (n : ℕ) → IsBytes key → IsBytes (expanded nk key n)
unfolding expanded
expanded_bytes nk key zero h = bytes_none
expanded_bytes nk key (suc n) h =
    bytes_append (expanded nk key n) (next_word nk key n (expanded nk key n)) (expanded_bytes nk key n h) (next_word_bytes nk key n (expanded nk key n) h (expanded_bytes nk key n h))

pub key_expansion_bytes : (key : List ℕ) → IsBytes key → IsBytes (key_expansion key)
unfolding key_expansion
key_expansion_bytes key h = expanded_bytes (words_of key) key (4 * (rounds_of key + 1)) h

pub round_key_bytes : (schedule : List ℕ) (round : ℕ) → IsBytes schedule → IsBytes (round_key schedule round)
round_key_bytes schedule round h = bytes_take 16 (drop (16 * round) schedule) (bytes_drop (16 * round) schedule h)
