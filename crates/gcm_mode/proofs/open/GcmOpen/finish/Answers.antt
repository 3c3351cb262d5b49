-- The bytes that were held back are compared with the tag.
use Rattle.std.proofs.Common.{◌≡◌, ℕ, ◌-◌, ◌≤◌, List, length, take, drop, refl, sym, ap, ◌∙◌, arith, rules, length-drop}
use Rattle.std.specs.Str.{bytes_eq}
use Rattle.gcm_mode.specs.Gcm.{hash_subkey, tag_of, open_front}
use Rattle.gcm_mode.proofs.Streaming.{tag_key_is}
use Rattle.gcm_mode.proofs.Tagging.{tag_is, opened_is, refused_is}
use Rattle.gcm_mode.proofs.open.GcmOpen.finish.Goals as goal

-- as many bytes were taken as the tag has
taken : (tag most : ℕ) (held text : List ℕ) → length held ≡ most → most ≡ tag → held ≡ drop (open_front tag text) text → tag ≤ length text
taken tag most held text size tag_is held_is =
    let left : length held ≡ length text - (length text - tag) = ap length held_is ∙ length-drop (open_front tag text) text in
    omega arith

-- the test that is made is that of the definition
test_is : (tag most : ℕ) (whole held now text sent : List ℕ) → take tag whole ≡ sent → length held ≡ most → most ≡ tag → now ≡ held
    → held ≡ drop (open_front tag text) text → bytes_eq (take (length now) whole) now ≡ bytes_eq sent (drop (open_front tag text) text)
test_is tag most whole held now text sent sent_is size tag_is now_is held_is =
    let count : length now ≡ tag = ap length now_is ∙ size ∙ tag_is in
    rw (count, sent_is, now_is, held_is) refl

pub returns-then-same_bytes-clause-opened : goal.returns-then-same_bytes-clause-opened
returns-then-same_bytes-clause-opened g c = λ cipher nonce tag aad text held.
    let ciphertext : List ℕ = take (open_front tag text) text in
    let hash = c.value.ensures (hash_subkey cipher) aad ciphertext held.hash in
    let key = tag_key_is g.C.BlockCipher.cipher c.args.self.stream cipher nonce (open_front tag text) c.tag_key.result held.stream c.tag_key.ensures in
    let sent : take tag c.xor_blocks-whole.result ≡ tag_of cipher nonce tag aad ciphertext =
    tag_is cipher nonce tag aad ciphertext c.value.result c.tag_key.result c.xor_blocks-whole.result hash (search rules) key c.xor_blocks-whole.ensures in
    let test = test_is tag c.args.self.held.most c.xor_blocks-whole.result c.args.self.held.bytes c.bytes-held.result.now text _ sent c.requires held.tag_is c.bytes-held.ensures.value held.held in
    let fits = taken tag c.args.self.held.most c.args.self.held.bytes text c.requires held.tag_is held.held in
    (refl, opened_is cipher nonce tag aad text held.stream.nonce_len fits (sym test ∙ sym c.same_bytes.ensures ∙ c.if-same_bytes.true))

pub returns-clause-opened : goal.returns-clause-opened
returns-clause-opened g c = λ cipher nonce tag aad text held.
    let ciphertext : List ℕ = take (open_front tag text) text in
    let hash = c.value.ensures (hash_subkey cipher) aad ciphertext held.hash in
    let key = tag_key_is g.C.BlockCipher.cipher c.args.self.stream cipher nonce (open_front tag text) c.tag_key.result held.stream c.tag_key.ensures in
    let sent : take tag c.xor_blocks-whole.result ≡ tag_of cipher nonce tag aad ciphertext =
    tag_is cipher nonce tag aad ciphertext c.value.result c.tag_key.result c.xor_blocks-whole.result hash (search rules) key c.xor_blocks-whole.ensures in
    let test = test_is tag c.args.self.held.most c.xor_blocks-whole.result c.args.self.held.bytes c.bytes-held.result.now text _ sent c.requires held.tag_is c.bytes-held.ensures.value held.held in
    let fits = taken tag c.args.self.held.most c.args.self.held.bytes text c.requires held.tag_is held.held in
    refused_is cipher nonce tag aad text fits (sym test ∙ sym c.same_bytes.ensures ∙ c.if-same_bytes.false)
