-- What is hashed, and the tag.
use Rattle.std.proofs.Common.{◌≡◌, ℕ, ◌*◌, ◌%◌, ◌^◌, ◌<◌, ◌≤◌, true, false, List, [], ◌∷◌, ◌++◌, length, take, drop, nat_lt, Some, None, refl, sym, ap, ◌∙◌, arith, length-append}
use Rattle.std.proofs.lemmas.List.{append-nil}
use Rattle.std.proofs.lemmas.Bool.Decides.{nat_tests}
use Rattle.std.specs.Str.{bytes_eq}
use Rattle.ghash.specs.Hash.{ghash}
use Rattle.gcm_mode.specs.Blocks.{blocks_of, padded}
use Rattle.gcm_mode.specs.Counter.{gctr, xor_bytes}
use Rattle.gcm_mode.specs.Gcm.{hash_subkey, hash_input, bit_length, pre_counter, raw, tag_of, gcm_seal, gcm_open, open_front, open_given}
use Rattle.gcm_mode.specs.Parts.{hashed}
use Rattle.gcm_mode.proofs.Cutting.{length-padded, padded-append}
use Rattle.gcm_mode.proofs.KeyStream.{gctr_one, take-raw}

pub not_below : (a b : ℕ) → b ≤ a → nat_lt a b ≡ false
not_below a b h = grind (arith, nat_tests)

below : (a b : ℕ) → a < b → nat_lt a b ≡ true
below a b h = grind (arith, nat_tests)

-- what was hashed before the lengths, padded
padded_hashed : (aad text : List ℕ) → padded (hashed aad text) ≡ padded aad ++ padded text
padded_hashed aad [] = sym (append-nil (padded aad))
padded_hashed aad (b ∷ bs) =
    let some : nat_lt 0 (length (b ∷ bs)) ≡ true = below 0 (length (b ∷ bs)) (omega arith) in
    rw some (padded-append (padded aad) (b ∷ bs) (length-padded aad))

-- and with the lengths behind it
pub hash_input_is : (aad text first second : List ℕ) → first ≡ bit_length aad → second ≡ bit_length text
    → padded (hashed aad text) ++ first ++ second ≡ hash_input aad text
hash_input_is aad text first second e f = rw (padded_hashed aad text, e, f) refl

pub length-hash_input : (aad text : List ℕ) → length (hash_input aad text) % 16 ≡ 0
length-hash_input aad text =
    let a : length (padded aad) % 16 ≡ 0 = length-padded aad in
    let b : length (padded text) % 16 ≡ 0 = length-padded text in
    let one = length-append (padded aad) (padded text) in
    let two = length-append (padded aad ++ padded text) (bit_length aad) in
    let three = length-append (padded aad ++ padded text ++ bit_length aad) (bit_length text) in
    omega arith

-- a count modulo 2^64 gives the length in bits modulo 2^64
pub bits_of : (n : ℕ) (bytes : List ℕ) → n ≡ length bytes % 2 ^ 64 → n * 8 % 2 ^ 64 ≡ length bytes * 8 % 2 ^ 64
bits_of n bytes e = omega arith

-- the tag, from the hash and the key block under which it is sent
pub tag_is : (cipher : List ℕ → List ℕ) (nonce : List ℕ) (tag : ℕ) (aad ciphertext hash key whole : List ℕ)
    → hash ≡ ghash (hash_subkey cipher) (blocks_of (hash_input aad ciphertext)) → length hash ≡ 16 → key ≡ cipher (pre_counter nonce)
    → whole ≡ xor_bytes hash key → take tag whole ≡ tag_of cipher nonce tag aad ciphertext
unfolding tag_of
tag_is cipher nonce tag aad ciphertext hash key whole hash_is len key_is whole_is =
    ap (λ (l : List ℕ). take tag l) (whole_is ∙ ap (λ (k : List ℕ). xor_bytes hash k) key_is ∙ sym (gctr_one cipher (pre_counter nonce) hash len)
    ∙ ap (λ (s : List ℕ). gctr cipher (pre_counter nonce) s) hash_is)

-- the ciphertext and the tag behind it
pub sealed_is : (cipher : List ℕ → List ℕ) (nonce : List ℕ) (tag : ℕ) (aad text given out : List ℕ) → given ≡ raw cipher nonce text
    → out ≡ tag_of cipher nonce tag aad (raw cipher nonce text) → given ++ out ≡ gcm_seal cipher nonce tag aad text
unfolding gcm_seal
sealed_is cipher nonce tag aad text given out e f = rw (e, f) refl

-- an opening with the right tag, and with a wrong one
pub opened_is : (cipher : List ℕ → List ℕ) (nonce : List ℕ) (tag : ℕ) (aad text : List ℕ) → length nonce ≡ 12 → tag ≤ length text
    → bytes_eq (tag_of cipher nonce tag aad (take (open_front tag text) text)) (drop (open_front tag text) text) ≡ true
    → gcm_open cipher nonce tag aad text ≡ Some (open_given cipher nonce tag text)
unfolding gcm_open
opened_is cipher nonce tag aad text len fits e =
    let whole : nat_lt (length text) tag ≡ false = not_below (length text) tag fits in
    rw (whole, e) (ap (λ (l : List ℕ). Some l) (sym (take-raw cipher nonce text (open_front tag text) len (omega arith))))

pub refused_is : (cipher : List ℕ → List ℕ) (nonce : List ℕ) (tag : ℕ) (aad text : List ℕ) → tag ≤ length text
    → bytes_eq (tag_of cipher nonce tag aad (take (open_front tag text) text)) (drop (open_front tag text) text) ≡ false
    → gcm_open cipher nonce tag aad text ≡ None
unfolding gcm_open
refused_is cipher nonce tag aad text fits e =
    let whole : nat_lt (length text) tag ≡ false = not_below (length text) tag fits in
    rw (whole, e) refl
