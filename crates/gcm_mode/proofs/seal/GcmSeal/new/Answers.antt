-- A sealing of nothing yet.
use Rattle.std.proofs.Common.{◌≡◌, ℕ, List, [], ap, ◌∙◌}
use Rattle.gcm_mode.specs.Gcm.{hash_subkey}
use Rattle.gcm_mode.proofs.KeyStream.{raw_none}
use Rattle.gcm_mode.proofs.Standing.{seals}
use Rattle.gcm_mode.proofs.seal.GcmSeal.new.Goals as goal

pub returns : goal.returns
returns g c =
    let cipher : List ℕ → List ℕ = g.C.BlockCipher.cipher c.args.cipher in
    let subkey : c.hash_subkey.result ≡ hash_subkey cipher = c.hash_subkey.ensures ∙ ap (λ (f : List ℕ → List ℕ). hash_subkey f) c.new-stream.ensures.same in
    seals g.C.BlockCipher.cipher _ cipher c.args.nonce c.args.tag [] [] c.new-stream.ensures
    (rw (raw_none cipher c.args.nonce c.new-stream.ensures.nonce_len, ← subkey) c.new-hash.ensures) c.new.ensures
