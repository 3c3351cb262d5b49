-- Opening undoes sealing.
use Rattle.std.proofs.Common.{◌≡◌, ℕ, ◌+◌, ◌-◌, false, true, List, [], ◌∷◌, ◌++◌, length, take, drop, nat_lt, Some, refl, sym, ap, ◌∙◌, arith, length-append}
use Rattle.std.proofs.lemmas.List.{take_at, drop_at}
use Rattle.std.proofs.lemmas.Slice.Eq.{bytes_eq-Decides}
use Rattle.std.specs.Str.{bytes_eq}
use Rattle.aes_core.specs.Laws.FieldLaws.{add_undone}
use Rattle.gcm_mode.specs.Bytewise.{xor_by}
use Rattle.gcm_mode.specs.Gcm.{raw, tag_of, gcm_seal, gcm_open}
use Rattle.gcm_mode.specs.Parts.{key_byte}
use Rattle.gcm_mode.proofs.KeyStream.{raw_is}
use Rattle.gcm_mode.proofs.Tagging.{not_below}

added_twice : (f : ℕ → ℕ) (at : ℕ) (xs : List ℕ) → xor_by f at (xor_by f at xs) ≡ xs
added_twice f at [] = refl
added_twice f at (b ∷ bs) = rw (add_undone b (f at), added_twice f (at + 1) bs) refl

raw_twice : (cipher : List ℕ → List ℕ) (nonce text : List ℕ) → length nonce ≡ 12 → raw cipher nonce (raw cipher nonce text) ≡ text
raw_twice cipher nonce text len =
    raw_is cipher nonce (raw cipher nonce text) len
    ∙ ap (λ (l : List ℕ). xor_by (key_byte cipher nonce) 0 l) (raw_is cipher nonce text len)
    ∙ added_twice (key_byte cipher nonce) 0 text

pub opens_sealed : (cipher : List ℕ → List ℕ) (nonce : List ℕ) (tag : ℕ) (aad text : List ℕ) → length nonce ≡ 12
    → length (tag_of cipher nonce tag aad (raw cipher nonce text)) ≡ tag → gcm_open cipher nonce tag aad (gcm_seal cipher nonce tag aad text) ≡ Some text
unfolding gcm_open gcm_seal
opens_sealed cipher nonce tag aad text len long =
    let c = raw cipher nonce text in
    let t = tag_of cipher nonce tag aad c in
    let all : length (c ++ t) ≡ length c + tag = length-append c t ∙ ap (λ (n : ℕ). length c + n) long in
    let front : length (c ++ t) - tag ≡ length c = omega arith in
    let whole : nat_lt (length (c ++ t)) tag ≡ false = not_below (length (c ++ t)) tag (omega arith) in
    let before : take (length (c ++ t) - tag) (c ++ t) ≡ c = take_at c t (length (c ++ t) - tag) (sym front) in
    let behind : drop (length (c ++ t) - tag) (c ++ t) ≡ t = drop_at c t (length (c ++ t) - tag) (sym front) in
    let same : bytes_eq t t ≡ true = (bytes_eq-Decides t t).1 refl in
    rw (whole, before, behind, same, raw_twice cipher nonce text len) refl
