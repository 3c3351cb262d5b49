-- Each transform ends as its mode does.
use Rattle.std.proofs.Common.{take, ◌∙◌}
use Rattle.aes_core.specs.Cipher.{cipher, inverse_cipher}
use Rattle.cipher_ops.specs.Output.{first_block, mode_code}
use Rattle.cipher_ops.proofs.Ending.{modes_end, modes_fault, seal_end, open_end, open_fault, sign_end, verify_end, verify_fault, err_is}
use Rattle.cipher_ops.proofs.transform.Transform.finish.Goals as goal

pub returns-in-Ok-clause-ends : goal.returns-in-Ok-clause-ends
returns-in-Ok-clause-ends c = λ plan key nonce aad text holds.
    let h = rw c.in-Modes.is at holds in
    modes_end c.in-Modes.blocks plan key nonce aad text (take c.in-Ok.size c.finish.new.out) c.args.signature h
    (c.in-Ok.ensures.gives (cipher key) (inverse_cipher key) plan (first_block plan nonce) text h.transform_is)

pub returns-in-Modes-clause-ends : goal.returns-in-Modes-clause-ends
returns-in-Modes-clause-ends c = λ plan key nonce aad text holds.
    let h = rw c.in-Modes.is at holds in
    modes_fault c.in-Modes.blocks plan key nonce aad text c.args.signature c.in-Err.fault h
    (c.in-Err.ensures.gives (cipher key) (inverse_cipher key) plan (first_block plan nonce) text h.transform_is)
    ∙ err_is (mode_code c.in-Err.fault) c.code_of.result c.code_of.ensures

pub returns-in-Seal-clause-ends : goal.returns-in-Seal-clause-ends
returns-in-Seal-clause-ends c = λ plan key nonce aad text holds.
    let h = rw c.in-Seal.is at holds in
    seal_end c.in-Seal.seal plan key nonce aad text (take c.finish-in-Seal.result c.finish-in-Seal.new.out) c.args.signature h
    (λ tag seals. c.finish-in-Seal.ensures.sealed (cipher key) nonce tag aad text seals)

pub returns-in-Ok-finish-clause-ends : goal.returns-in-Ok-finish-clause-ends
returns-in-Ok-finish-clause-ends c = λ plan key nonce aad text holds.
    let h = rw c.in-Open.is at holds in
    open_end c.in-Open.open plan key nonce aad text c.args.signature h (λ tag opens. (c.in-Ok-finish.ensures.opened (cipher key) nonce tag aad text opens).1)

pub returns-in-Open-clause-ends : goal.returns-in-Open-clause-ends
returns-in-Open-clause-ends c = λ plan key nonce aad text holds.
    let h = rw c.in-Open.is at holds in
    open_fault c.in-Open.open plan key nonce aad text c.args.signature h (λ tag opens. c.in-Err-finish.ensures.opened (cipher key) nonce tag aad text opens)

pub returns-in-Sign-clause-ends : goal.returns-in-Sign-clause-ends
returns-in-Sign-clause-ends c = λ plan key nonce aad text holds.
    let h = rw c.in-Sign.is at holds in
    sign_end c.in-Sign.mac c.in-Sign.size plan key nonce aad text (take c.put_mac.result c.put_mac.new.out) c.args.signature h
    (λ digest fits mac. c.put_mac.ensures.mac digest key text fits mac)

pub returns-in-Ok-verify-clause-ends : goal.returns-in-Ok-verify-clause-ends
returns-in-Ok-verify-clause-ends c = λ plan key nonce aad text holds.
    let h = rw c.in-Verify.is at holds in
    verify_end c.in-Verify.mac c.in-Verify.least plan key nonce aad text c.args.signature h (λ digest mac. c.in-Ok-verify.ensures digest key text mac)

pub returns-clause-ends : goal.returns-clause-ends
returns-clause-ends c = λ plan key nonce aad text holds.
    let h = rw c.in-Verify.is at holds in
    verify_fault c.in-Verify.mac c.in-Verify.least plan key nonce aad text c.args.signature c.in-Err-verify.code h (λ digest mac. c.in-Err-verify.ensures digest key text mac)
