-- The tag comes behind the ciphertext of the rest.
use Rattle.std.proofs.Common.{◌≡◌, ℕ, List, ◌++◌, length, take, min, ap, ◌∙◌, rules}
use Rattle.aes_core.specs.Cipher.{cipher}
use Rattle.gcm_mode.specs.Gcm.{raw, tag_of}
use Rattle.whole_outputs.proofs.GcmLemmas.{take_few, sealed_end}
use Rattle.whole_outputs.proofs.gcm.GcmText.end_sealed.Goals as goal

pub returns : goal.returns
returns c = λ key nonce aad done held.
    let rest : List ℕ = c.args.rest.now in
    let tag : ℕ = c.args.self.tag in
    let all : List ℕ = raw (cipher key) nonce (done ++ rest) in
    let long : length c.whole_tag.result ≡ 16 = search rules in
    let size : c.min-size.result ≡ min tag 16 = c.min-size.ensures ∙ ap (λ (n : ℕ). min n 16) c.in_ok-sealed.ensures.tag in
    let end : take c.min-size.result c.whole_tag.result ≡ tag_of (cipher key) nonce tag aad all =
    ap (λ (n : ℕ). take n c.whole_tag.result) size ∙ take_few tag c.whole_tag.result long
    ∙ c.whole_tag.ensures key nonce aad (length (done ++ rest)) all (c.in_ok-sealed.ensures.gcm key nonce aad done held) tag in
    c.of.ensures ∙ c.in_ok-extend_from_slice.ensures.items
    ∙ sealed_end key nonce tag aad done rest c.in_ok-sealed.sealed.items (take c.min-size.result c.whole_tag.result) held.nonce_len (c.in_ok-sealed.ensures.made key nonce aad done held) end
