-- The counter modes byte by byte.
use Rattle.std.proofs.Common.{◌≡◌, ℕ, zero, suc, ◌+◌, ◌*◌, ◌/◌, ◌%◌, ◌<◌, ◌≤◌, List, [], ◌∷◌, ◌++◌, length, take, drop, map, get_or, slice_index, refl, sym, ap, ◌∙◌, arith, add-zero, length-drop, length-take, inl, inr}
use Rattle.std.proofs.lemmas.List.{take-append-drop, drop_all, nil_from_length, length-take-le}
use Rattle.std.proofs.lemmas.Bool.{cases_lt}
use Rattle.std.specs.Int.{w32, to_be_bytes}
use Rattle.tags.specs.declared.plan.Plan.TheVariants.{Ctr}
use Rattle.aes_core.specs.Cipher.{cipher}
use Rattle.block_modes.specs.Texts.{pieces_of, xor_bytes}
use Rattle.block_modes.specs.Modes.{ctr, ctr_pieces, next_counter}
use Rattle.block_modes.specs.Output as modes
use Rattle.gcm_mode.specs.Bytewise.{xor_by, stream_byte}
use Rattle.gcm_mode.specs.Counter.{inc32}
use Rattle.gcm_mode.specs.Gcm as gcm
use Rattle.gcm_mode.specs.Parts as parts
use Rattle.gcm_mode.specs.Parts.{counter_block}
use Rattle.gcm_mode.proofs.KeyStream.{xor_by-append, xor_bytes_is, xor_bytes_zip, inc32_next, raw_is}
use Rattle.gcm_mode.proofs.Blockwise.{xor_by_same}
use Rattle.cipher_ops.specs.Output.{raw}
use Rattle.whole_outputs.specs.Streams.{next_of, raised, counters, key_byte}
use Rattle.whole_outputs.specs.declared.key_stream.Counting.{Counting}
use Rattle.whole_outputs.specs.declared.key_stream.Counting.TheVariants.{Whole, Last}
use Rattle.whole_outputs.proofs.FromABlock.{sealed_block}

-- ---- counter blocks

pub raised_more : (next : List ℕ → List ℕ) (a b : ℕ) (first : List ℕ) → raised next b (raised next a first) ≡ raised next (a + b) first
raised_more next zero b first = let e : b ≡ zero + b = omega arith in ap (λ (n : ℕ). raised next n first) e
raised_more next (suc a) b first =
    let e : suc a + b ≡ suc (a + b) = omega arith in
    raised_more next a b (next first) ∙ ap (λ (n : ℕ). raised next n first) (sym e)

pub raised_next : (next : List ℕ → List ℕ) (n : ℕ) (first : List ℕ) → next (raised next n first) ≡ raised next (n + 1) first
raised_next next n first = raised_more next n 1 first

pub length-counters : (next : List ℕ → List ℕ) (n : ℕ) (first : List ℕ) → length (counters next n first) ≡ n
length-counters next zero first = refl
length-counters next (suc n) first = ap suc (length-counters next n (next first))

pub counters_more : (next : List ℕ → List ℕ) (n : ℕ) (first : List ℕ) → counters next (n + 1) first ≡ counters next n first ++ raised next n first ∷ []
counters_more next zero first = refl
counters_more next (suc n) first =
    let e : suc n + 1 ≡ suc (n + 1) = omega arith in
    ap (λ (m : ℕ). counters next m first) e ∙ ap (λ (l : List (List ℕ)). first ∷ l) (counters_more next n (next first))

pub counter_at : (next : List ℕ → List ℕ) (n i : ℕ) (first other : List ℕ) → i < n → get_or (counters next n first) i other ≡ raised next i first
counter_at next zero i first other h = absurd (omega arith)
counter_at next (suc n) zero first other h = refl
counter_at next (suc n) (suc i) first other h = counter_at next n i (next first) other (omega arith)

key_block_at : (key : List ℕ) (next : List ℕ → List ℕ) (n i : ℕ) (first : List ℕ) → i < n → get_or (map (cipher key) (counters next n first)) i [] ≡ cipher key (raised next i first)
key_block_at key next zero i first h = absurd (omega arith)
key_block_at key next (suc n) zero first h = refl
key_block_at key next (suc n) (suc i) first h = key_block_at key next n i (next first) (omega arith)

-- ---- the keys of a piece are those of the text

stream_is : (key first now : List ℕ) (counting : Counting) (n m i : ℕ) → now ≡ raised (next_of counting) (n / 16) first → n % 16 + i < 16 * m →
    stream_byte (map (cipher key) (counters (next_of counting) m now)) (n % 16 + i) ≡ key_byte key counting first (n + i)
stream_is key first now counting n m i is below =
    let next = next_of counting in
    let row : (n % 16 + i) / 16 < m = omega arith in
    let place : n / 16 + (n % 16 + i) / 16 ≡ (n + i) / 16 = omega arith in
    let column : (n % 16 + i) % 16 ≡ (n + i) % 16 = omega arith in
    ap (λ (b : List ℕ). slice_index b ((n % 16 + i) % 16)) (key_block_at key next m ((n % 16 + i) / 16) now row)
    ∙ ap (λ (b : List ℕ). slice_index (cipher key (raised next ((n % 16 + i) / 16) b)) ((n % 16 + i) % 16)) is
    ∙ ap (λ (b : List ℕ). slice_index (cipher key b) ((n % 16 + i) % 16)) (raised_more next (n / 16) ((n % 16 + i) / 16) first)
    ∙ ap (λ (k : ℕ). slice_index (cipher key (raised next k first)) ((n % 16 + i) % 16)) place
    ∙ ap (λ (k : ℕ). slice_index (cipher key (raised next ((n + i) / 16) first)) k) column

-- bytes to which the keys of their place in a text were added
pub keys_added : (key first now : List ℕ) (counting : Counting) (n m from : ℕ) (keys : List (List ℕ)) (bytes new : List ℕ) →
    now ≡ raised (next_of counting) (n / 16) first → from ≡ n % 16 → from + length bytes ≤ 16 * m →
    keys ≡ map (cipher key) (counters (next_of counting) m now) → new ≡ xor_by (stream_byte keys) from bytes → new ≡ xor_by (key_byte key counting first) n bytes
keys_added key first now counting n m from keys bytes new is from_is fits keys_are is_new =
    let made : List (List ℕ) = map (cipher key) (counters (next_of counting) m now) in
    is_new ∙ ap (λ (l : List (List ℕ)). xor_by (stream_byte l) from bytes) keys_are ∙ ap (λ (k : ℕ). xor_by (stream_byte made) k bytes) from_is
    ∙ xor_by_same (stream_byte made) (key_byte key counting first) (n % 16) n bytes (λ i below. stream_is key first now counting n m i is (omega (arith, below, fits, from_is)))

-- ---- CTR

-- one block
piece_is : (key first : List ℕ) (k : ℕ) (xs : List ℕ) → length xs ≤ 16 →
    xor_bytes xs (cipher key (raised next_counter k first)) ≡ xor_by (key_byte key Whole first) (16 * k) xs
piece_is key first k xs few =
    let block : List ℕ = cipher key (raised next_counter k first) in
    let enough : length xs ≤ length block = omega (arith, sealed_block key (raised next_counter k first), few) in
    xor_bytes_zip xs block enough ∙ xor_bytes_is xs block
    ∙ xor_by_same (λ i. get_or block i 0) (key_byte key Whole first) 0 (16 * k) xs (λ i below.
    let here : 0 + i ≡ (16 * k + i) % 16 = omega (arith, below, few) in
    let row : k ≡ (16 * k + i) / 16 = omega (arith, below, few) in
    ap (λ (j : ℕ). slice_index block j) here ∙ ap (λ (j : ℕ). slice_index (cipher key (raised next_counter j first)) ((16 * k + i) % 16)) row)

-- where the next block begins: nothing comes behind a block that is not whole
tail_is : (f : ℕ → ℕ) (k : ℕ) (xs : List ℕ) → xor_by f (16 * (k + 1)) (drop 16 xs) ≡ xor_by f (16 * k + length (take 16 xs)) (drop 16 xs)
tail_is f k xs =
    elim (cases_lt (length xs) 16) [
      | inl below ↦ (let none : drop 16 xs ≡ [] = drop_all 16 xs (omega arith) in rw none refl)
      | inr whole ↦ (let full : length (take 16 xs) ≡ 16 = length-take-le 16 xs whole in ap (λ (m : ℕ). xor_by f m (drop 16 xs)) (omega arith))
    ]

pieces_are : (key first : List ℕ) (n k : ℕ) (xs : List ℕ) → length xs ≤ n * 16 →
    ctr_pieces (cipher key) (raised next_counter k first) (pieces_of n xs) ≡ xor_by (key_byte key Whole first) (16 * k) xs
pieces_are key first zero k xs fits = rw (nil_from_length xs (omega arith)) refl
pieces_are key first (suc n) k xs fits =
    let f : ℕ → ℕ = key_byte key Whole first in
    let front : xor_bytes (take 16 xs) (cipher key (raised next_counter k first)) ≡ xor_by f (16 * k) (take 16 xs) = piece_is key first k (take 16 xs) (omega (arith, length-take 16 xs)) in
    let rest : ctr_pieces (cipher key) (next_counter (raised next_counter k first)) (pieces_of n (drop 16 xs)) ≡ xor_by f (16 * (k + 1)) (drop 16 xs) =
    ap (λ (b : List ℕ). ctr_pieces (cipher key) b (pieces_of n (drop 16 xs))) (raised_next next_counter k first) ∙ pieces_are key first n (k + 1) (drop 16 xs) (omega (arith, length-drop 16 xs)) in
    let whole : xor_by f (16 * k) xs ≡ xor_by f (16 * k) (take 16 xs) ++ xor_by f (16 * k + length (take 16 xs)) (drop 16 xs) =
    ap (λ (l : List ℕ). xor_by f (16 * k) l) (sym (take-append-drop 16 xs)) ∙ xor_by-append f (16 * k) (take 16 xs) (drop 16 xs) in
    rw (front, rest, tail_is f k xs) (sym whole)

-- what CTR makes of a text
pub ctr_is : (key nonce text : List ℕ) → raw Ctr key nonce text ≡ xor_by (key_byte key Whole nonce) 0 text
unfolding raw modes.raw ctr
ctr_is key nonce text = pieces_are key nonce ((length text + 15) / 16) 0 text (omega arith)

-- ---- GCM

raised_is : (nonce : List ℕ) (k a : ℕ) → length nonce ≡ 12 → raised inc32 k (counter_block nonce a) ≡ counter_block nonce (a + k)
raised_is nonce zero a len = ap (λ (m : ℕ). counter_block nonce m) (sym (add-zero a))
raised_is nonce (suc k) a len =
    let e : a + 1 + k ≡ a + suc k = omega arith in
    ap (λ (b : List ℕ). raised inc32 k b) (inc32_next nonce a len) ∙ raised_is nonce k (a + 1) len ∙ ap (λ (m : ℕ). counter_block nonce m) e

-- the first counter block of a text
pub first_is : (nonce : List ℕ) → length nonce ≡ 12 → inc32 (gcm.pre_counter nonce) ≡ counter_block nonce 2
unfolding counter_block
first_is nonce len = inc32_next nonce 1 len

-- the counter blocks of the tag and of a text, as they are spelled
pub tag_counter : (nonce : List ℕ) → nonce ++ to_be_bytes w32 1 ≡ gcm.pre_counter nonce
tag_counter nonce = refl

pub text_counter : (nonce : List ℕ) → length nonce ≡ 12 → nonce ++ to_be_bytes w32 2 ≡ inc32 (gcm.pre_counter nonce)
unfolding counter_block
text_counter nonce len = sym (first_is nonce len)

byte_is : (key nonce : List ℕ) (n : ℕ) → length nonce ≡ 12 → parts.key_byte (cipher key) nonce n ≡ key_byte key Last (inc32 (gcm.pre_counter nonce)) n
byte_is key nonce n len =
    ap (λ (b : List ℕ). slice_index (cipher key b) (n % 16)) (sym (raised_is nonce (n / 16) 2 len) ∙ ap (λ (b : List ℕ). raised inc32 (n / 16) b) (sym (first_is nonce len)))

-- what GCM makes of a text
pub gcm_is : (key nonce text : List ℕ) → length nonce ≡ 12 → gcm.raw (cipher key) nonce text ≡ xor_by (key_byte key Last (inc32 (gcm.pre_counter nonce))) 0 text
gcm_is key nonce text len =
    raw_is (cipher key) nonce text len
    ∙ xor_by_same (parts.key_byte (cipher key) nonce) (key_byte key Last (inc32 (gcm.pre_counter nonce))) 0 0 text (λ i below. byte_is key nonce (0 + i) len)

-- ---- a text that goes on

pub xor_by_on : (f : ℕ → ℕ) (done more out : List ℕ) → out ≡ xor_by f (length done) more → xor_by f 0 done ++ out ≡ xor_by f 0 (done ++ more)
xor_by_on f done more out is =
    let place : 0 + length done ≡ length done = omega arith in
    ap (λ (l : List ℕ). xor_by f 0 done ++ l) is ∙ ap (λ (k : ℕ). xor_by f 0 done ++ xor_by f k more) (sym place) ∙ sym (xor_by-append f 0 done more)
