-- The text goes on, and the ciphertext is hashed.
use Rattle.std.proofs.Common.{◌++◌, length, refl}
use Rattle.aes_core.specs.Cipher.{cipher}
use Rattle.gcm_mode.specs.Counter.{inc32}
use Rattle.gcm_mode.specs.Gcm.{hash_subkey, pre_counter}
use Rattle.whole_outputs.specs.declared.key_stream.Counting.TheVariants.{Last}
use Rattle.whole_outputs.proofs.GcmLemmas.{raw_on, passed}
use Rattle.whole_outputs.proofs.gcm.GcmText.open.Goals as goal

pub returns-in-Ok-clause-made : goal.returns-in-Ok-clause-made
returns-in-Ok-clause-made c = λ key nonce aad done held.
    raw_on key nonce done c.args.sealed.now c.in-Ok.text.items held.nonce_len (c.in-Ok.ensures.made key Last (inc32 (pre_counter nonce)) (length done) held.stream)

pub returns-in-Ok-clause-gcm : goal.returns-in-Ok-clause-gcm
returns-in-Ok-clause-gcm c = λ key nonce aad done held.
    passed c.args.self.now _ key nonce aad done c.args.sealed.now done (done ++ c.args.sealed.now) held refl
    (c.in-Ok.ensures.stream key Last (inc32 (pre_counter nonce)) (length done) held.stream) (c.text.ensures (hash_subkey (cipher key)) aad done held.hash)

pub returns-in-Err-clause-gcm : goal.returns-in-Err-clause-gcm
returns-in-Err-clause-gcm c = λ key nonce aad done held. record {
  nonce_len = held.nonce_len;
  stream = c.in-Err.ensures.stream key Last (inc32 (pre_counter nonce)) (length done) held.stream;
  hash = held.hash;
  tag_key_is = held.tag_key_is;
}
