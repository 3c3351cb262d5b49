-- The key schedule: its length, that it is of bytes, and that it begins with the key.
use Rattle.std.proofs.Common.{◌≡◌, ℕ, zero, suc, ◌+◌, ◌-◌, ◌*◌, ◌<◌, ◌≤◌, ◌==◌, true, cond, ◌||◌, List, ◌++◌, length, take, drop, ◌⊎◌, inl, inr, refl, sym, ◌∙◌, ap, arith, length-take, length-drop, length-append, add-one}
use Rattle.std.proofs.lemmas.List.{take-append-le, take_all, drop-take}
use Rattle.std.proofs.lemmas.Bool.{or_cases, eqb-true, cases_lt, lt-ltb, le-ltb}
use Rattle.std.proofs.Math.Seq.{take-add}
use Rattle.aes_core.specs.Expansion.{word, add_words, changed, next_word, expanded, words_of, rounds_of, key_expansion}
use Rattle.aes_core.specs.Cipher.{is_key_size}

-- the front of a longer front
first_of_front : (m k : ℕ) (xs : List ℕ) → take m (take (m + k) xs) ≡ take m xs
first_of_front m k xs =
    elim (cases_lt (length xs) m) [
      | inl short ↦ ap (take m) (take_all (m + k) xs (omega arith))
      | inr long ↦
          ap (take m) (take-add m k xs)
          ∙ (let f : m ≤ length (take m xs) = omega (arith, length-take m xs) in take-append-le m (take m xs) (take k (drop m xs)) f)
          ∙ (let f : length (take m xs) ≤ m = omega (arith, length-take m xs) in take_all m (take m xs) f)
    ]

-- a piece within the front of a list
pub piece_of_front : (i m n : ℕ) (xs : List ℕ) → i + m ≤ n → take m (drop i (take n xs)) ≡ take m (drop i xs)
piece_of_front i m n xs h =
    let e : n ≡ i + (m + (n - (i + m))) = omega arith in
    ap (λ k. take m (drop i (take k xs))) e
    ∙ ap (take m) (drop-take i (m + (n - (i + m))) xs)
    ∙ first_of_front m (n - (i + m)) (drop i xs)

-- ---- sizes

pub key_sizes : (n : ℕ) → is_key_size n ≡ true → (n ≡ 16) ⊎ ((n ≡ 24) ⊎ (n ≡ 32))
key_sizes n h =
    elim (or_cases (n == 16 || n == 24) (n == 32) h) [
      | inl first ↦ elim (or_cases (n == 16) (n == 24) first) [ inl e ↦ inl (eqb-true n 16 e) | inr e ↦ inr (inl (eqb-true n 24 e)) ]
      | inr e ↦ inr (inr (eqb-true n 32 e))
    ]

word_length : (xs : List ℕ) (i : ℕ) → 4 * i + 4 ≤ length xs → length (word xs i) ≡ 4
word_length xs i h = omega (arith, length-take 4 (drop (4 * i) xs), length-drop (4 * i) xs)

add_words_length : (v w : List ℕ) → length (add_words v w) ≡ 4
unfolding add_words
add_words_length v w = refl

pub next_word_length : (nk : ℕ) (key : List ℕ) (i : ℕ) (words : List ℕ) → length key ≡ 4 * nk → length (next_word nk key i words) ≡ 4
unfolding next_word
next_word_length nk key i words h =
    elim (cases_lt i nk) [
      | inl below ↦ rw (lt-ltb i nk below) (word_length key i (omega arith))
      | inr past ↦ rw (le-ltb i nk past) (add_words_length (word words (i - nk)) (changed nk i (word words (i - 1))))
    ]

pub expanded_length : (nk : ℕ) (key : List ℕ) (n : ℕ) → length key ≡ 4 * nk → length (expanded nk key n) ≡ 4 * n
unfolding expanded
expanded_length nk key zero h = refl
expanded_length nk key (suc n) h =
    omega (arith, length-append (expanded nk key n) (next_word nk key n (expanded nk key n)), expanded_length nk key n h, next_word_length nk key n (expanded nk key n) h)

-- ---- its length and its beginning

pub whole_words : (key : List ℕ) → is_key_size (length key) ≡ true → length key ≡ 4 * words_of key
whole_words key h = elim (key_sizes (length key) h) [ inl e ↦ omega arith | inr more ↦ elim more [ inl e ↦ omega arith | inr e ↦ omega arith ] ]

pub key_expansion_length : (key : List ℕ) → is_key_size (length key) ≡ true → length (key_expansion key) ≡ 16 * (rounds_of key + 1)
unfolding key_expansion
key_expansion_length key h = omega (arith, expanded_length (words_of key) key (4 * (rounds_of key + 1)) (whole_words key h))

-- while the words are the key's, they are its front
begins_up_to : (nk : ℕ) (key : List ℕ) (n : ℕ) → n ≤ nk → expanded nk key n ≡ take (4 * n) key
unfolding expanded next_word
begins_up_to nk key zero h = refl
begins_up_to nk key (suc n) h =
    let below : n < nk = omega arith in
    let e : 4 * n + 4 ≡ 4 * suc n = omega arith in
    ap (λ w. w ++ next_word nk key n w) (begins_up_to nk key n (omega arith))
    ∙ ap (λ t. take (4 * n) key ++ cond t (word key n) (add_words (word (take (4 * n) key) (n - nk)) (changed nk n (word (take (4 * n) key) (n - 1))))) (lt-ltb n nk below)
    ∙ sym (take-add (4 * n) 4 key)
    ∙ ap (λ k. take k key) e

begins_past : (nk : ℕ) (key : List ℕ) (m : ℕ) → length key ≡ 4 * nk → take (4 * nk) (expanded nk key (nk + m)) ≡ key
unfolding expanded
begins_past nk key zero h =
    let e : nk + 0 ≡ nk = omega arith in
    let f : length (take (4 * nk) key) ≤ 4 * nk = omega (arith, length-take (4 * nk) key) in
    ap (λ k. take (4 * nk) (expanded nk key k)) e
    ∙ ap (take (4 * nk)) (begins_up_to nk key nk (omega arith))
    ∙ take_all (4 * nk) (take (4 * nk) key) f
    ∙ take_all (4 * nk) key (omega arith)
begins_past nk key (suc m) h =
    let e : nk + suc m ≡ suc (nk + m) = omega arith in
    let f : 4 * nk ≤ length (expanded nk key (nk + m)) = omega (arith, expanded_length nk key (nk + m) h) in
    ap (λ k. take (4 * nk) (expanded nk key k)) e
    ∙ take-append-le (4 * nk) (expanded nk key (nk + m)) (next_word nk key (nk + m) (expanded nk key (nk + m))) f
    ∙ begins_past nk key m h

-- the schedule begins with the key
pub begins_with_key : (key : List ℕ) → is_key_size (length key) ≡ true → take (4 * words_of key) (key_expansion key) ≡ key
unfolding key_expansion
begins_with_key key h =
    let e : 4 * (rounds_of key + 1) ≡ words_of key + (3 * words_of key + 28) = omega arith in
    ap (λ n. take (4 * words_of key) (expanded (words_of key) key n)) e
    ∙ begins_past (words_of key) key (3 * words_of key + 28) (whole_words key h)

-- one word more
pub expanded_more : (nk : ℕ) (key : List ℕ) (i : ℕ) → expanded nk key (i + 1) ≡ expanded nk key i ++ next_word nk key i (expanded nk key i)
unfolding expanded
expanded_more nk key i = ap (expanded nk key) (add-one i)
