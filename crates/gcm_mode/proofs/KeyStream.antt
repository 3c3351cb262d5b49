-- The counter mode byte by byte.
use Rattle.std.proofs.Common.{◌≡◌, ℕ, zero, suc, ◌+◌, ◌*◌, ◌/◌, ◌%◌, ◌^◌, ◌<◌, ◌≤◌, List, [], ◌∷◌, ◌++◌, length, take, drop, get_or, set, slice_index, refl, sym, ap, ◌∙◌, arith, add-zero, length-drop, length-take, inl, inr}
use Rattle.std.proofs.lemmas.List.{take-append-drop, take_at, drop_at, drop-drop, drop_all, get_or-drop, nil_from_length, length-take-le, take_all, append-nil}
use Rattle.std.proofs.lemmas.Bool.{cases_lt}
use Rattle.std.proofs.lemmas.Nat.{from_be_bytes-to_be_bytes_4}
use Rattle.std.specs.Simd.Lanes.{zip2}
use Rattle.std.specs.Int.{w32, from_be_bytes, to_be_bytes}
use Rattle.std.specs.Int.RustNames.{bit_xor}
use Rattle.gcm_mode.specs.Blocks.{first_blocks}
use Rattle.gcm_mode.specs.Bytewise.{xor_by}
use Rattle.gcm_mode.specs.Counter.{inc32, xor_bytes, gctr_blocks, gctr}
use Rattle.gcm_mode.specs.Gcm.{pre_counter, raw, seal_given}
use Rattle.gcm_mode.specs.Parts.{counter_block, key_byte}

pub length-xor_by : (f : ℕ → ℕ) (at : ℕ) (xs : List ℕ) → length (xor_by f at xs) ≡ length xs
length-xor_by f at [] = refl
length-xor_by f at (b ∷ bs) = ap suc (length-xor_by f (at + 1) bs)

pub xor_by-append : (f : ℕ → ℕ) (at : ℕ) (xs ys : List ℕ) → xor_by f at (xs ++ ys) ≡ xor_by f at xs ++ xor_by f (at + length xs) ys
xor_by-append f at [] ys = rw add-zero refl
xor_by-append f at (b ∷ bs) ys =
    let e : at + 1 + length bs ≡ at + length (b ∷ bs) = omega arith in
    let t = xor_by-append f (at + 1) bs ys in
    ap (λ (l : List ℕ). bit_xor b (f at) ∷ l) (rw e at t)

-- one more byte of a string that is changed in place
pub xor_by_more : (f : ℕ → ℕ) (at : ℕ) (xs : List ℕ) (i : ℕ) → i < length xs
    → set (xor_by f at (take i xs) ++ drop i xs) i (bit_xor (get_or (xor_by f at (take i xs) ++ drop i xs) i 0) (f (at + i))) ≡ xor_by f at (take (i + 1) xs) ++ drop (i + 1) xs
xor_by_more f at [] i h = absurd (omega arith)
xor_by_more f at (b ∷ bs) zero h = rw add-zero refl
xor_by_more f at (b ∷ bs) (suc i) h =
    let place : at + suc i ≡ at + 1 + i = omega arith in
    let longer : suc i + 1 ≡ suc (i + 1) = omega arith in
    rw (place, longer) (ap (λ (l : List ℕ). bit_xor b (f at) ∷ l) (xor_by_more f (at + 1) bs i (omega arith)))

-- a block added to a string
xor_bytes_from : (key : List ℕ) (j : ℕ) (xs : List ℕ) → xor_bytes xs (drop j key) ≡ xor_by (λ i. get_or key i 0) j xs
xor_bytes_from key j [] = refl
xor_bytes_from key j (b ∷ bs) =
    let byte : slice_index (drop j key) 0 ≡ get_or key j 0 = get_or-drop j key 0 0 ∙ ap (λ (i : ℕ). get_or key i 0) (add-zero j) in
    let rest : drop 1 (drop j key) ≡ drop (j + 1) key = drop-drop 1 j key in
    rw (byte, rest, xor_bytes_from key (j + 1) bs) refl

pub xor_bytes_is : (xs key : List ℕ) → xor_bytes xs key ≡ xor_by (λ i. get_or key i 0) 0 xs
xor_bytes_is xs key = xor_bytes_from key 0 xs

-- two vectors added lane by lane
pub xor_bytes_zip : (xs ys : List ℕ) → length xs ≤ length ys → zip2 bit_xor xs ys ≡ xor_bytes xs ys
xor_bytes_zip [] ys h = refl
xor_bytes_zip (x ∷ xs) [] h = absurd (omega arith)
xor_bytes_zip (x ∷ xs) (y ∷ ys) h = ap (λ (l : List ℕ). bit_xor x y ∷ l) (xor_bytes_zip xs ys (omega arith))

-- the next number in a counter block
pub inc32_next : (nonce : List ℕ) (k : ℕ) → length nonce ≡ 12 → inc32 (counter_block nonce k) ≡ counter_block nonce (k + 1)
unfolding inc32 counter_block
inc32_next nonce k len =
    let number : List ℕ = to_be_bytes w32 (k % 2 ^ 32) in
    let front : take 12 (nonce ++ number) ≡ nonce = take_at nonce number 12 len in
    let back : drop 12 (nonce ++ number) ≡ number = drop_at nonce number 12 len in
    let read : from_be_bytes w32 number ≡ k % 2 ^ 32 = from_be_bytes-to_be_bytes_4 (k % 2 ^ 32) (omega arith) in
    let next : (k % 2 ^ 32 + 1) % 2 ^ 32 ≡ (k + 1) % 2 ^ 32 = omega arith in
    rw (front, back) (ap (λ (m : ℕ). nonce ++ to_be_bytes w32 m) (ap (λ (m : ℕ). (m + 1) % 2 ^ 32) read ∙ next))

-- within one block
block_is : (cipher : List ℕ → List ℕ) (nonce : List ℕ) (k j : ℕ) (xs : List ℕ) → j + length xs ≤ 16
    → xor_bytes xs (drop j (cipher (counter_block nonce (2 + k)))) ≡ xor_by (key_byte cipher nonce) (16 * k + j) xs
block_is cipher nonce k j [] fits = refl
block_is cipher nonce k j (b ∷ bs) fits =
    let key : List ℕ = cipher (counter_block nonce (2 + k)) in
    let row : (16 * k + j) / 16 ≡ k = omega arith in
    let column : (16 * k + j) % 16 ≡ j = omega arith in
    let byte : slice_index (drop j key) 0 ≡ key_byte cipher nonce (16 * k + j) = rw (row, column) (get_or-drop j key 0 0 ∙ ap (λ (i : ℕ). get_or key i 0) (omega arith)) in
    let rest : drop 1 (drop j key) ≡ drop (j + 1) key = drop-drop 1 j key in
    let place : 16 * k + (j + 1) ≡ 16 * k + j + 1 = omega arith in
    let more : xor_bytes bs (drop 1 (drop j key)) ≡ xor_by (key_byte cipher nonce) (16 * k + j + 1) bs =
    rw (rest, ← place) (block_is cipher nonce k (j + 1) bs (omega arith)) in
    rw (byte, more) refl

-- where the next block begins: nothing comes behind a block that is not whole
tail_is : (f : ℕ → ℕ) (k : ℕ) (xs : List ℕ) → xor_by f (16 * (k + 1)) (drop 16 xs) ≡ xor_by f (16 * k + length (take 16 xs)) (drop 16 xs)
tail_is f k xs =
    elim (cases_lt (length xs) 16) [
      | inl below ↦ (let none : drop 16 xs ≡ [] = drop_all 16 xs (omega arith) in rw none refl)
      | inr whole ↦ (let full : length (take 16 xs) ≡ 16 = length-take-le 16 xs whole in ap (λ (m : ℕ). xor_by f m (drop 16 xs)) (omega arith))
    ]

-- block after block
blocks_are : (cipher : List ℕ → List ℕ) (nonce : List ℕ) (n k : ℕ) (xs : List ℕ) → length nonce ≡ 12 → length xs ≤ n * 16
    → gctr_blocks cipher (counter_block nonce (2 + k)) (first_blocks n xs) ≡ xor_by (key_byte cipher nonce) (16 * k) xs
unfolding first_blocks
blocks_are cipher nonce zero k xs len fits = rw (nil_from_length xs (omega arith)) refl
blocks_are cipher nonce (suc n) k xs len fits =
    let f : ℕ → ℕ = key_byte cipher nonce in
    let short : length (take 16 xs) ≤ 16 = omega (arith, length-take 16 xs) in
    let front : xor_bytes (take 16 xs) (cipher (counter_block nonce (2 + k))) ≡ xor_by f (16 * k) (take 16 xs) =
    block_is cipher nonce k 0 (take 16 xs) (omega arith) ∙ ap (λ (m : ℕ). xor_by f m (take 16 xs)) (add-zero (16 * k)) in
    let number : 2 + k + 1 ≡ 2 + (k + 1) = omega arith in
    let next : inc32 (counter_block nonce (2 + k)) ≡ counter_block nonce (2 + (k + 1)) = inc32_next nonce (2 + k) len ∙ ap (λ (m : ℕ). counter_block nonce m) number in
    let rest : gctr_blocks cipher (inc32 (counter_block nonce (2 + k))) (first_blocks n (drop 16 xs)) ≡ xor_by f (16 * (k + 1)) (drop 16 xs) =
    rw next (blocks_are cipher nonce n (k + 1) (drop 16 xs) len (omega (arith, length-drop 16 xs))) in
    let whole : xor_by f (16 * k) xs ≡ xor_by f (16 * k) (take 16 xs) ++ xor_by f (16 * k + length (take 16 xs)) (drop 16 xs) =
    ap (λ (l : List ℕ). xor_by f (16 * k) l) (sym (take-append-drop 16 xs)) ∙ xor_by-append f (16 * k) (take 16 xs) (drop 16 xs) in
    let tail : xor_by f (16 * (k + 1)) (drop 16 xs) ≡ xor_by f (16 * k + length (take 16 xs)) (drop 16 xs) = tail_is f k xs in
    rw (front, rest, tail) (sym whole)

-- what the mode makes of a text, byte by byte
pub raw_is : (cipher : List ℕ → List ℕ) (nonce text : List ℕ) → length nonce ≡ 12 → raw cipher nonce text ≡ xor_by (key_byte cipher nonce) 0 text
unfolding raw gctr counter_block
raw_is cipher nonce text len =
    let first : inc32 (pre_counter nonce) ≡ counter_block nonce (2 + 0) = inc32_next nonce 1 len in
    rw first (blocks_are cipher nonce ((length text + 15) / 16) 0 text len (omega arith))

pub length-raw : (cipher : List ℕ → List ℕ) (nonce text : List ℕ) → length nonce ≡ 12 → length (raw cipher nonce text) ≡ length text
length-raw cipher nonce text len = rw (raw_is cipher nonce text len) (length-xor_by (key_byte cipher nonce) 0 text)

-- a text that goes on
pub raw-append : (cipher : List ℕ → List ℕ) (nonce text more : List ℕ) → length nonce ≡ 12
    → raw cipher nonce (text ++ more) ≡ raw cipher nonce text ++ xor_by (key_byte cipher nonce) (length text) more
raw-append cipher nonce text more len =
    let place : 0 + length text ≡ length text = omega arith in
    rw (raw_is cipher nonce (text ++ more) len, raw_is cipher nonce text len)
    (xor_by-append (key_byte cipher nonce) 0 text more ∙ ap (λ (m : ℕ). xor_by (key_byte cipher nonce) 0 text ++ xor_by (key_byte cipher nonce) m more) place)

-- the front of what the mode makes of a text is what it makes of the front
pub take-raw : (cipher : List ℕ → List ℕ) (nonce text : List ℕ) (n : ℕ) → length nonce ≡ 12 → n ≤ length text
    → take n (raw cipher nonce text) ≡ raw cipher nonce (take n text)
take-raw cipher nonce text n len fits =
    let whole : raw cipher nonce text ≡ raw cipher nonce (take n text) ++ xor_by (key_byte cipher nonce) (length (take n text)) (drop n text) =
    ap (λ (l : List ℕ). raw cipher nonce l) (sym (take-append-drop n text)) ∙ raw-append cipher nonce (take n text) (drop n text) len in
    let size : length (raw cipher nonce (take n text)) ≡ n = length-raw cipher nonce (take n text) len ∙ length-take-le n text fits in
    rw whole (take_at (raw cipher nonce (take n text)) (xor_by (key_byte cipher nonce) (length (take n text)) (drop n text)) n size)

-- GCTR of one block
pub gctr_one : (cipher : List ℕ → List ℕ) (icb block : List ℕ) → length block ≡ 16 → gctr cipher icb block ≡ xor_bytes block (cipher icb)
unfolding gctr first_blocks
gctr_one cipher icb block len = rw (len, take_all 16 block (omega arith)) (append-nil (xor_bytes block (cipher icb)))

pub raw_none : (cipher : List ℕ → List ℕ) (nonce : List ℕ) → length nonce ≡ 12 → raw cipher nonce [] ≡ []
raw_none cipher nonce len = raw_is cipher nonce [] len

pub seal_given_is : (cipher : List ℕ → List ℕ) (nonce text : List ℕ) → length nonce ≡ 12 → seal_given cipher nonce text ≡ raw cipher nonce text
seal_given_is cipher nonce text len = take_all (length text) (raw cipher nonce text) (omega (arith, length-raw cipher nonce text len))
