-- All that is hashed was taken.
use Rattle.std.proofs.Common.{ap, ◌∙◌, ℕ}
use Rattle.std.specs.Int.{w64, to_be_bytes}
use Rattle.gcm_mode.specs.Gcm.{hash_input}
use Rattle.gcm_mode.proofs.Tagging.{hash_input_is, length-hash_input, bits_of}
use Rattle.whole_outputs.proofs.text_hash.BothHash.value.Goals as goal

pub returns : goal.returns
returns c = λ subkey aad text held.
    let first = c.to_be_bytes.ensures ∙ ap (λ (m : ℕ). to_be_bytes w64 m) (bits_of c.args.self.aad_len aad held.aad_len) in
    let second = c.to_be_bytes-2.ensures ∙ ap (λ (m : ℕ). to_be_bytes w64 m) (bits_of c.args.self.text_len text held.text_len) in
    let taken = c.take-2.ensures subkey _ (c.take.ensures subkey _ (c.pad.ensures subkey _ held.bytes)) in
    let whole = hash_input_is aad text c.to_be_bytes.result c.to_be_bytes-2.result first second in
    c.value.ensures subkey (hash_input aad text) (rw whole at taken) (length-hash_input aad text)
