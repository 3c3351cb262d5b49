-- No bytes yet.
use Rattle.std.proofs.Common.{List, ℕ, ap, ◌∙◌}
use Rattle.aes_core.specs.Cipher.{cipher}
use Rattle.aes_wide.specs.WideKey.{wide_key_of}
use Rattle.whole_outputs.proofs.KeyBytes.{tag_counter, text_counter}
use Rattle.whole_outputs.proofs.GcmLemmas.{begun}
use Rattle.whole_outputs.proofs.gcm.GcmText.new.Goals as goal

pub returns-clause-gcm : goal.returns-clause-gcm
returns-clause-gcm c =
    let key : List ℕ = wide_key_of c.args.cipher in
    begun _ key c.args.nonce.now c.counter_block-2.result c.encrypt.result c.requires c.new.ensures (c.counter_block-2.ensures ∙ text_counter c.args.nonce.now c.requires) c.new-hash.ensures c.encrypt.ensures
    (c.encrypt-tag_key.ensures ∙ ap (cipher key) (c.counter_block.ensures ∙ tag_counter c.args.nonce.now))
