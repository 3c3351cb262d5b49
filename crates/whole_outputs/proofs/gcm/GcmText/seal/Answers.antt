-- The text goes on, and its ciphertext is hashed.
use Rattle.std.proofs.Common.{◌≡◌, ℕ, List, ◌++◌, length, ap, ◌∙◌, subst, refl}
use Rattle.aes_core.specs.Cipher.{cipher}
use Rattle.gcm_mode.specs.Counter.{inc32}
use Rattle.gcm_mode.specs.Gcm.{hash_subkey, pre_counter, raw}
use Rattle.whole_outputs.specs.Hashes.{HashesBoth}
use Rattle.whole_outputs.specs.declared.key_stream.Counting.TheVariants.{Last}
use Rattle.whole_outputs.proofs.GcmLemmas.{raw_on, passed}
use Rattle.whole_outputs.proofs.gcm.GcmText.seal.Goals as goal

pub returns-in-Ok-clause-made : goal.returns-in-Ok-clause-made
returns-in-Ok-clause-made c = λ key nonce aad done held.
    raw_on key nonce done c.args.text.now c.in-Ok.sealed.items held.nonce_len (c.in-Ok.ensures.made key Last (inc32 (pre_counter nonce)) (length done) held.stream)

pub returns-in-Ok-clause-gcm : goal.returns-in-Ok-clause-gcm
returns-in-Ok-clause-gcm c = λ key nonce aad done held.
    let joined : raw (cipher key) nonce done ++ c.deref.result.now ≡ raw (cipher key) nonce (done ++ c.args.text.now) =
    ap (λ (l : List ℕ). raw (cipher key) nonce done ++ l) c.deref.ensures.value ∙ returns-in-Ok-clause-made c key nonce aad done held in
    passed c.args.self.now _ key nonce aad done c.args.text.now (raw (cipher key) nonce done) (raw (cipher key) nonce (done ++ c.args.text.now)) held refl
    (c.in-Ok.ensures.stream key Last (inc32 (pre_counter nonce)) (length done) held.stream)
    (subst (λ (l : List ℕ). HashesBoth c.text.new.self (hash_subkey (cipher key)) aad l) joined (c.text.ensures (hash_subkey (cipher key)) aad (raw (cipher key) nonce done) held.hash))

pub returns-in-Err-clause-gcm : goal.returns-in-Err-clause-gcm
returns-in-Err-clause-gcm c = λ key nonce aad done held. record {
  nonce_len = held.nonce_len;
  stream = c.in-Err.ensures.stream key Last (inc32 (pre_counter nonce)) (length done) held.stream;
  hash = held.hash;
  tag_key_is = held.tag_key_is;
}
