use Rattle.aes_core.specs.Cipher.{cipher}
use Rattle.cipher_ops.proofs.Beginning.{seal_aad, open_aad}
use Rattle.cipher_ops.proofs.transform.Transform.aad.Goals as goal

pub returns-in-Seal : goal.returns-in-Seal
returns-in-Seal c = λ plan key nonce aad holds.
    let h = rw c.in-Seal.is at holds in
    seal_aad c.in-Seal.seal c.aad.new.self plan key nonce aad c.args.input.now h (λ tag seals. c.aad.ensures.seals (cipher key) nonce tag aad seals)

pub returns-in-Open : goal.returns-in-Open
returns-in-Open c = λ plan key nonce aad holds.
    let h = rw c.in-Open.is at holds in
    open_aad c.in-Open.open c.aad-in-Open.new.self plan key nonce aad c.args.input.now h (λ tag opens. c.aad-in-Open.ensures.opens (cipher key) nonce tag aad opens)
