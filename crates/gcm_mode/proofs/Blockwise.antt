-- A key stream that is added many blocks at a time.
use Rattle.std.proofs.Common.{◌≡◌, ℕ, zero, suc, ◌+◌, ◌*◌, ◌/◌, ◌%◌, ◌^◌, ◌<◌, ◌≤◌, List, [], ◌∷◌, ◌++◌, length, take, drop, map, set, get_or, slice_index, refl, sym, ap, ◌∙◌, arith, add-zero, append_assoc, length-append, length-drop}
use Rattle.std.specs.Int.{w32, to_be_bytes}
use Rattle.std.proofs.lemmas.List.{take_at, drop_at, drop-drop, length-take-le}
use Rattle.std.proofs.Math.Seq.{take-add}
use borrow.Rule.Slice.PartMut.{put_mid}
use Rattle.gcm_mode.specs.Bytewise.{xor_by, stream_byte}
use Rattle.gcm_mode.specs.Parts.{Streams, counter_block, counter_blocks, key_byte}
use Rattle.gcm_mode.specs.declared.stream.Gctr.{Gctr}
use Rattle.gcm_mode.specs.Counter.{xor_bytes}
use Rattle.gcm_mode.proofs.KeyStream.{length-xor_by, xor_by-append, xor_bytes_is}

-- ---- a string in parts

pub xor_by_same : (f g : ℕ → ℕ) (a b : ℕ) (xs : List ℕ) → ((i : ℕ) → i < length xs → f (a + i) ≡ g (b + i)) → xor_by f a xs ≡ xor_by g b xs
xor_by_same f g a b [] h = refl
xor_by_same f g a b (x ∷ xs) h =
    let here : f a ≡ g b = ap f (sym (add-zero a)) ∙ h 0 (omega arith) ∙ ap g (add-zero b) in
    let rest : xor_by f (a + 1) xs ≡ xor_by g (b + 1) xs =
    xor_by_same f g (a + 1) (b + 1) xs (λ i below.
    let left : a + 1 + i ≡ a + (i + 1) = omega arith in
    let right : b + (i + 1) ≡ b + 1 + i = omega arith in
    ap f left ∙ h (i + 1) (omega arith) ∙ ap g right) in
    rw (here, rest) refl

-- a part of a string that is changed in place, behind a part that was, up to j
pub part_added : (f : ℕ → ℕ) (n : ℕ) (xs now new : List ℕ) (a k j : ℕ) → now ≡ xor_by f n (take a xs) ++ drop a xs → a + k ≡ j → j ≤ length xs → new ≡ xor_by f (n + a) (take k (drop a now))
    → put_mid a k now new ≡ xor_by f n (take j xs) ++ drop j xs
part_added f n xs now new a k j is to fits is_new =
    let done : List ℕ = xor_by f n (take a xs) in
    let rest : List ℕ = drop a xs in
    let size : length (take a xs) ≡ a = length-take-le a xs (omega arith) in
    let long : length done ≡ a = length-xor_by f n (take a xs) ∙ size in
    let back : drop a now ≡ rest = ap (λ (l : List ℕ). drop a l) is ∙ drop_at done rest a long in
    let front : take a now ≡ done = ap (λ (l : List ℕ). take a l) is ∙ take_at done rest a long in
    let more : List ℕ = xor_by f (n + length (take a xs)) (take k rest) in
    let added : new ≡ more = is_new ∙ ap (λ (l : List ℕ). xor_by f (n + a) (take k l)) back ∙ ap (λ (m : ℕ). xor_by f (n + m) (take k rest)) (sym size) in
    ap (λ (l : List ℕ). l ++ (new ++ drop k (drop a now))) front
    ∙ ap (λ (l : List ℕ). done ++ (l ++ drop k (drop a now))) added
    ∙ ap (λ (l : List ℕ). done ++ (more ++ drop k l)) back
    ∙ sym (append_assoc done more (drop k rest))
    ∙ ap (λ (l : List ℕ). l ++ drop k rest) (sym (xor_by-append f n (take a xs) (take k rest)) ∙ ap (λ (l : List ℕ). xor_by f n l) (sym (take-add a k xs)))
    ∙ ap (λ (l : List ℕ). xor_by f n (take (a + k) xs) ++ l) (drop-drop k a xs)
    ∙ ap (λ (m : ℕ). xor_by f n (take m xs) ++ drop m xs) to

-- a string of three parts
pub in_three : (f : ℕ → ℕ) (n : ℕ) (xs a back b c front blocks rest : List ℕ) → xs ≡ a ++ back → back ≡ b ++ c → front ≡ xor_by f n a → blocks ≡ xor_by f (n + length a) b
    → rest ≡ xor_by f (n + length a + length b) c → front ++ (blocks ++ rest) ≡ xor_by f n xs
in_three f n xs a back b c front blocks rest whole parts is_front is_blocks is_rest =
    let behind : xor_by f (n + length a) back ≡ xor_by f (n + length a) b ++ xor_by f (n + length a + length b) c =
    ap (λ (l : List ℕ). xor_by f (n + length a) l) parts ∙ xor_by-append f (n + length a) b c in
    rw (is_front, is_blocks, is_rest) (sym (ap (λ (l : List ℕ). xor_by f n l) whole ∙ xor_by-append f n a back ∙ ap (λ (l : List ℕ). xor_by f n a ++ l) behind))

-- ---- counter blocks

pub length-counter_blocks : (nonce : List ℕ) (k n : ℕ) → length (counter_blocks nonce k n) ≡ n
length-counter_blocks nonce k zero = refl
length-counter_blocks nonce k (suc n) = ap suc (length-counter_blocks nonce (k + 1) n)

pub counters_next : (nonce : List ℕ) (k n : ℕ) → counter_blocks nonce k (n + 1) ≡ counter_blocks nonce k n ++ counter_block nonce (k + n) ∷ []
counters_next nonce k zero = rw add-zero refl
counters_next nonce k (suc n) =
    let longer : suc n + 1 ≡ suc (n + 1) = omega arith in
    let place : k + 1 + n ≡ k + suc n = omega arith in
    ap (λ (m : ℕ). counter_blocks nonce k m) longer
    ∙ ap (λ (l : List (List ℕ)). counter_block nonce k ∷ l) (counters_next nonce (k + 1) n)
    ∙ ap (λ (m : ℕ). counter_block nonce k ∷ (counter_blocks nonce (k + 1) n ++ counter_block nonce m ∷ [])) place

key_block_at : (cipher : List ℕ → List ℕ) (nonce : List ℕ) (k n i : ℕ) → i < n → get_or (map cipher (counter_blocks nonce k n)) i [] ≡ cipher (counter_block nonce (k + i))
key_block_at cipher nonce k zero i h = absurd (omega arith)
key_block_at cipher nonce k (suc n) zero h = rw add-zero refl
key_block_at cipher nonce k (suc n) (suc i) h =
    let place : k + 1 + i ≡ k + suc i = omega arith in
    key_block_at cipher nonce (k + 1) n i (omega arith) ∙ ap (λ (m : ℕ). cipher (counter_block nonce m)) place

stream_is : (cipher : List ℕ → List ℕ) (nonce : List ℕ) (n m i : ℕ) → n % 16 ≡ 0 → i < 16 * m
    → stream_byte (map cipher (counter_blocks nonce (2 + n / 16) m)) i ≡ key_byte cipher nonce (n + i)
stream_is cipher nonce n m i due below =
    let row : 2 + n / 16 + i / 16 ≡ 2 + (n + i) / 16 = omega arith in
    let column : i % 16 ≡ (n + i) % 16 = omega arith in
    ap (λ (b : List ℕ). slice_index b (i % 16)) (key_block_at cipher nonce (2 + n / 16) m (i / 16) (omega arith))
    ∙ ap (λ (k : ℕ). slice_index (cipher (counter_block nonce k)) (i % 16)) row
    ∙ ap (λ (k : ℕ). slice_index (cipher (counter_block nonce (2 + (n + i) / 16))) k) column

-- blocks to which the cipher of their counter blocks was added
pub group_added : (cipher : List ℕ → List ℕ) (nonce : List ℕ) (n m : ℕ) (keys : List (List ℕ)) (bytes new : List ℕ) → n % 16 ≡ 0 → length bytes ≤ 16 * m
    → keys ≡ map cipher (counter_blocks nonce (2 + n / 16) m) → new ≡ xor_by (stream_byte keys) 0 bytes → new ≡ xor_by (key_byte cipher nonce) n bytes
group_added cipher nonce n m keys bytes new due fits is_keys is_new =
    let made : List (List ℕ) = map cipher (counter_blocks nonce (2 + n / 16) m) in
    is_new ∙ ap (λ (l : List (List ℕ)). xor_by (stream_byte l) 0 bytes) is_keys
    ∙ xor_by_same (stream_byte made) (key_byte cipher nonce) 0 n bytes (λ i below.
    let same : 0 + i ≡ i = omega arith in
    ap (λ (k : ℕ). stream_byte made k) same ∙ stream_is cipher nonce n m i due (omega (arith, below, fits)))

-- ---- the stream at a block's edge

pub counter_now : {C : Type 0} (cipher_of : C → List ℕ → List ℕ) (s : Gctr C) (cipher : List ℕ → List ℕ) (nonce : List ℕ) (n : ℕ)
    → Streams cipher_of s cipher nonce n → n % 16 ≡ 0 → s.nonce ++ to_be_bytes w32 s.counter ≡ counter_block nonce (2 + n / 16)
unfolding counter_block
counter_now cipher_of s cipher nonce n held due =
    let number : 2 + (n + 15) / 16 ≡ 2 + n / 16 = omega arith in
    let now : s.counter ≡ (2 + n / 16) % 2 ^ 32 = held.counter ∙ ap (λ (k : ℕ). k % 2 ^ 32) number in
    ap (λ (l : List ℕ). l ++ to_be_bytes w32 s.counter) held.nonce_is ∙ ap (λ (k : ℕ). nonce ++ to_be_bytes w32 k) now

pub block_passed : {C : Type 0} (cipher_of : C → List ℕ → List ℕ) (s t : Gctr C) (cipher : List ℕ → List ℕ) (nonce : List ℕ) (n m : ℕ)
    → Streams cipher_of s cipher nonce n → n % 16 ≡ 0 → m ≡ n + 16 → t.cipher ≡ s.cipher → t.nonce ≡ s.nonce → t.counter ≡ (s.counter + 1) % 2 ^ 32 → t.used ≡ s.used
    → Streams cipher_of t cipher nonce m
block_passed cipher_of s t cipher nonce n m held due next cipher_is nonce_is counter used =
    let was : s.counter ≡ (2 + (n + 15) / 16) % 2 ^ 32 = held.counter in
    record {
      same = rw cipher_is held.same;
      nonce_is = nonce_is ∙ held.nonce_is;
      nonce_len = held.nonce_len;
      counter = omega arith;
      used = omega (arith, used, held.used);
      key = λ within. absurd (omega arith);
    }

-- one place more of a list that is filled
pub put_next : (done start : List (List ℕ)) (i : ℕ) (x : List ℕ) → length done ≡ i → i < length start → set (done ++ drop i start) i x ≡ (done ++ x ∷ []) ++ drop (i + 1) start
put_next [] [] i x e h = absurd (omega arith)
put_next [] (m ∷ ms) zero x e h = refl
put_next [] (m ∷ ms) (suc i) x e h = absurd (omega arith)
put_next (a ∷ more) start zero x e h = absurd (omega arith)
put_next (a ∷ more) [] (suc i) x e h = absurd (omega arith)
put_next (a ∷ more) (m ∷ ms) (suc i) x e h =
    let longer : suc i + 1 ≡ suc (i + 1) = omega arith in
    rw longer (ap (λ (l : List (List ℕ)). a ∷ l) (put_next more ms i x (omega arith) (omega arith)))

pub length-put_mid : (xs ys : List ℕ) (a k : ℕ) → a + k ≤ length xs → length ys ≡ k → length (put_mid a k xs ys) ≡ length xs
length-put_mid xs ys a k fits size =
    omega (arith, length-append (take a xs) (ys ++ drop k (drop a xs)), length-append ys (drop k (drop a xs)), length-take-le a xs (omega arith), length-drop k (drop a xs), length-drop a xs)

-- block i of a string, to which block i of the stream was added
pub block_added : (keys : List (List ℕ)) (i : ℕ) (block new : List ℕ) → length block ≤ 16 → new ≡ xor_bytes block (get_or keys i []) → new ≡ xor_by (stream_byte keys) (0 + 16 * i) block
block_added keys i block new few is_new =
    is_new ∙ xor_bytes_is block (get_or keys i [])
    ∙ xor_by_same (λ j. get_or (get_or keys i []) j 0) (stream_byte keys) 0 (0 + 16 * i) block (λ j below.
    let here : 0 + j ≡ (0 + 16 * i + j) % 16 = omega (arith, below, few) in
    let row : i ≡ (0 + 16 * i + j) / 16 = omega (arith, below, few) in
    ap (λ (k : ℕ). slice_index (get_or keys i []) k) here ∙ ap (λ (k : ℕ). slice_index (get_or keys k []) ((0 + 16 * i + j) % 16)) row)
