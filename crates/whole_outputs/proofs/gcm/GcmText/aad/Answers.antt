use Rattle.gcm_mode.specs.Gcm.{hash_subkey}
use Rattle.aes_core.specs.Cipher.{cipher}
use Rattle.whole_outputs.proofs.gcm.GcmText.aad.Goals as goal

pub returns-clause-gcm : goal.returns-clause-gcm
returns-clause-gcm c = λ key nonce aad held. record {
  nonce_len = held.nonce_len;
  stream = held.stream;
  hash = c.aad.ensures (hash_subkey (cipher key)) aad held.hash;
  tag_key_is = held.tag_key_is;
}
