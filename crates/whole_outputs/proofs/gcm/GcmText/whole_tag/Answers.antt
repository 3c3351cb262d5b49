-- The hash under the tag's key.
use Rattle.std.proofs.Common.{◌≡◌, length, ◌∙◌, arith, rules}
use Rattle.aes_core.specs.Cipher.{cipher}
use Rattle.gcm_mode.specs.Gcm.{hash_subkey}
use Rattle.gcm_mode.proofs.KeyStream.{xor_bytes_zip}
use Rattle.gcm_mode.proofs.Tagging.{tag_is}
use Rattle.whole_outputs.proofs.gcm.GcmText.whole_tag.Goals as goal

pub returns : goal.returns
returns c = λ key nonce aad count sealed held tag.
    let hash = c.value.ensures (hash_subkey (cipher key)) aad sealed held.hash in
    let long : length c.value.result ≡ 16 = search rules in
    let wide : length c.args.self.tag_key ≡ 16 = search rules in
    tag_is (cipher key) nonce tag aad sealed c.value.result c.args.self.tag_key c.sum.result hash long held.tag_key_is
    (c.sum.ensures ∙ xor_bytes_zip c.value.result c.args.self.tag_key (omega (arith, long, wide)))
