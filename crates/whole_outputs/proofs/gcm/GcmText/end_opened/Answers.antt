-- The tag behind the rest is right, or another one, or there is none.
use Rattle.std.proofs.Common.{◌≡◌, ℕ, List, Ok, ◌++◌, length, take, min, sym, ap, ◌∙◌, rules}
use Rattle.aes_core.specs.Cipher.{cipher}
use Rattle.gcm_mode.specs.Gcm.{tag_of}
use Rattle.whole_outputs.proofs.GcmLemmas.{take_few, opened_end, refused_end, short_end}
use Rattle.whole_outputs.proofs.gcm.GcmText.end_opened.Goals as goal

pub returns-then-rest-self : goal.returns-then-rest-self
returns-then-rest-self c = λ key nonce aad done held may. short_end key nonce c.args.self.tag aad done c.args.rest.now c.if-rest-self.true may

pub returns-then-same_bytes : goal.returns-then-same_bytes
returns-then-same_bytes c = λ key nonce aad done held may.
    let tag : ℕ = c.args.self.tag in
    let sealed : List ℕ = c.split_at.result.0.now in
    let long : length c.whole_tag.result ≡ 16 = search rules in
    let size : c.min-size.result ≡ min tag 16 = c.min-size.ensures ∙ ap (λ (n : ℕ). min n 16) c.in_ok-text.ensures.tag in
    let whole_tag : take c.min-size.result c.whole_tag.result ≡ tag_of (cipher key) nonce tag aad (done ++ sealed) =
    ap (λ (n : ℕ). take n c.whole_tag.result) size ∙ take_few tag c.whole_tag.result long
    ∙ c.whole_tag.ensures key nonce aad (length (done ++ sealed)) (done ++ sealed) (c.in_ok-text.ensures.gcm key nonce aad done held) tag in
    ap (λ (l : List ℕ). Ok l) c.of.ensures
    ∙ opened_end key nonce tag aad done c.args.rest.now sealed c.split_at.result.1.now c.in_ok-text.text.items (take c.min-size.result c.whole_tag.result) held.nonce_len c.if-rest-self.false
    c.split_at.ensures.front c.split_at.ensures.back (c.in_ok-text.ensures.made key nonce aad done held) whole_tag (sym c.same_bytes.ensures ∙ c.if-same_bytes.true)

pub returns-else-same_bytes : goal.returns-else-same_bytes
returns-else-same_bytes c = λ key nonce aad done held may.
    let tag : ℕ = c.args.self.tag in
    let sealed : List ℕ = c.split_at.result.0.now in
    let long : length c.whole_tag.result ≡ 16 = search rules in
    let size : c.min-size.result ≡ min tag 16 = c.min-size.ensures ∙ ap (λ (n : ℕ). min n 16) c.in_ok-text.ensures.tag in
    let whole_tag : take c.min-size.result c.whole_tag.result ≡ tag_of (cipher key) nonce tag aad (done ++ sealed) =
    ap (λ (n : ℕ). take n c.whole_tag.result) size ∙ take_few tag c.whole_tag.result long
    ∙ c.whole_tag.ensures key nonce aad (length (done ++ sealed)) (done ++ sealed) (c.in_ok-text.ensures.gcm key nonce aad done held) tag in
    refused_end key nonce tag aad done c.args.rest.now sealed c.split_at.result.1.now (take c.min-size.result c.whole_tag.result) c.if-rest-self.false
    c.split_at.ensures.front c.split_at.ensures.back whole_tag (sym c.same_bytes.ensures ∙ c.if-same_bytes.false)
