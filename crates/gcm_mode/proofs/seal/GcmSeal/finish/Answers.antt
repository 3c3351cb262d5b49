-- The tag comes behind the ciphertext.
use Rattle.std.proofs.Common.{◌≡◌, ℕ, ◌≤◌, ◌++◌, length, take, drop, sym, ap, ◌∙◌, arith, rules}
use Rattle.std.proofs.lemmas.List.{take_at, length-take-le}
use Rattle.gcm_mode.specs.Gcm.{hash_subkey, raw, tag_of}
use Rattle.gcm_mode.proofs.KeyStream.{seal_given_is}
use Rattle.gcm_mode.proofs.Streaming.{tag_key_is}
use Rattle.gcm_mode.proofs.Tagging.{tag_is, sealed_is}
use Rattle.gcm_mode.proofs.Undoing.{opens_sealed}
use Rattle.gcm_mode.proofs.seal.GcmSeal.finish.Goals as goal

pub returns-clause-sealed : goal.returns-clause-sealed
returns-clause-sealed g c = λ cipher nonce tag aad text held.
    let size : c.bytes-size.result ≡ tag = c.bytes-size.ensures.value ∙ held.tag_is in
    let hash = c.value.ensures (hash_subkey cipher) aad (raw cipher nonce text) held.hash in
    let key = tag_key_is g.C.BlockCipher.cipher c.args.self.stream cipher nonce (length text) c.tag_key.result held.stream c.tag_key.ensures in
    let tag_bytes : take tag c.xor_blocks-whole.result ≡ tag_of cipher nonce tag aad (raw cipher nonce text) =
    tag_is cipher nonce tag aad (raw cipher nonce text) c.value.result c.tag_key.result c.xor_blocks-whole.result hash (search rules) key c.xor_blocks-whole.ensures in
    let front : take c.bytes-size.result (c.copy_from_slice.new.self ++ drop c.bytes-size.result c.args.out.now) ≡ c.copy_from_slice.new.self =
    take_at c.copy_from_slice.new.self (drop c.bytes-size.result c.args.out.now) c.bytes-size.result (search rules) in
    sealed_is cipher nonce tag aad text _ _ (seal_given_is cipher nonce text held.stream.nonce_len)
    (front ∙ c.copy_from_slice.ensures.after ∙ ap (λ (n : ℕ). take n c.xor_blocks-whole.result) size ∙ tag_bytes)

pub returns-clause-opens : goal.returns-clause-opens
returns-clause-opens g c = λ cipher nonce tag aad text held.
    let size : c.bytes-size.result ≡ tag = c.bytes-size.ensures.value ∙ held.tag_is in
    let hash = c.value.ensures (hash_subkey cipher) aad (raw cipher nonce text) held.hash in
    let key = tag_key_is g.C.BlockCipher.cipher c.args.self.stream cipher nonce (length text) c.tag_key.result held.stream c.tag_key.ensures in
    let tag_bytes : take tag c.xor_blocks-whole.result ≡ tag_of cipher nonce tag aad (raw cipher nonce text) =
    tag_is cipher nonce tag aad (raw cipher nonce text) c.value.result c.tag_key.result c.xor_blocks-whole.result hash (search rules) key c.xor_blocks-whole.ensures in
    let whole : length c.xor_blocks-whole.result ≡ 16 = search rules in
    let fits : tag ≤ length c.xor_blocks-whole.result = omega (arith, whole, size, c.bytes-size.ensures.most) in
    opens_sealed cipher nonce tag aad text held.stream.nonce_len (ap length (sym tag_bytes) ∙ length-take-le tag c.xor_blocks-whole.result fits)
