-- Each transform goes on, and gives what its mode gives.
use Rattle.std.proofs.Common.{◌≡◌, ◌≤◌, length, take, ◌∙◌, arith}
use Rattle.std.proofs.lemmas.List.{length-take-le}
use Rattle.aes_core.specs.Cipher.{cipher, inverse_cipher}
use Rattle.cipher_ops.specs.Output.{first_block}
use Rattle.cipher_ops.proofs.GoingOn.{modes_more, seal_more, open_more, sign_more, verify_more}
use Rattle.cipher_ops.proofs.transform.Transform.update.Goals as goal

pub returns-in-Modes-clause-holds : goal.returns-in-Modes-clause-holds
returns-in-Modes-clause-holds c = λ plan key nonce aad text holds.
    let h = rw c.in-Modes.is at holds in
    (modes_more c.in-Modes.blocks c.update.new.self plan key nonce aad text c.args.input.now (take c.update.result c.update.new.out) h
    (c.update.ensures.holds (cipher key) (inverse_cipher key) plan (first_block plan nonce) text h.transform_is)
    (c.update.ensures.gives (cipher key) (inverse_cipher key) plan (first_block plan nonce) text h.transform_is)).holds

pub returns-in-Modes-clause-joined : goal.returns-in-Modes-clause-joined
returns-in-Modes-clause-joined c = λ plan key nonce aad text holds.
    let h = rw c.in-Modes.is at holds in
    (modes_more c.in-Modes.blocks c.update.new.self plan key nonce aad text c.args.input.now (take c.update.result c.update.new.out) h
    (c.update.ensures.holds (cipher key) (inverse_cipher key) plan (first_block plan nonce) text h.transform_is)
    (c.update.ensures.gives (cipher key) (inverse_cipher key) plan (first_block plan nonce) text h.transform_is)).joined

pub returns-in-Seal-clause-holds : goal.returns-in-Seal-clause-holds
returns-in-Seal-clause-holds c = λ plan key nonce aad text holds.
    let h = rw c.in-Seal.is at holds in
    let room : length c.args.input.now ≤ length c.args.out.now = rw c.in-Seal.is at c.requires in
    let size : length (take c.update-in-Seal.result c.update-in-Seal.new.out) ≡ c.update-in-Seal.result = length-take-le c.update-in-Seal.result c.update-in-Seal.new.out (omega arith) in
    (seal_more c.in-Seal.seal c.update-in-Seal.new.self plan key nonce aad text c.args.input.now _ h (size ∙ c.update-in-Seal.ensures.count)
    (λ tag seals. c.update-in-Seal.ensures.seals (cipher key) nonce tag aad text seals)
    (λ tag seals. c.update-in-Seal.ensures.given (cipher key) nonce tag aad text seals)).holds

pub returns-in-Seal-clause-joined : goal.returns-in-Seal-clause-joined
returns-in-Seal-clause-joined c = λ plan key nonce aad text holds.
    let h = rw c.in-Seal.is at holds in
    let room : length c.args.input.now ≤ length c.args.out.now = rw c.in-Seal.is at c.requires in
    let size : length (take c.update-in-Seal.result c.update-in-Seal.new.out) ≡ c.update-in-Seal.result = length-take-le c.update-in-Seal.result c.update-in-Seal.new.out (omega arith) in
    (seal_more c.in-Seal.seal c.update-in-Seal.new.self plan key nonce aad text c.args.input.now _ h (size ∙ c.update-in-Seal.ensures.count)
    (λ tag seals. c.update-in-Seal.ensures.seals (cipher key) nonce tag aad text seals)
    (λ tag seals. c.update-in-Seal.ensures.given (cipher key) nonce tag aad text seals)).joined

pub returns-in-Open-clause-holds : goal.returns-in-Open-clause-holds
returns-in-Open-clause-holds c = λ plan key nonce aad text holds.
    let h = rw c.in-Open.is at holds in
    let room : length c.args.input.now ≤ length c.args.out.now = rw c.in-Open.is at c.requires in
    let size : length (take c.update-in-Open.result c.update-in-Open.new.out) ≡ c.update-in-Open.result = length-take-le c.update-in-Open.result c.update-in-Open.new.out (omega arith) in
    (open_more c.in-Open.open c.update-in-Open.new.self plan key nonce aad text c.args.input.now (take c.update-in-Open.result c.update-in-Open.new.out) h
    (λ tag opens. rw size (c.update-in-Open.ensures.count (cipher key) nonce tag aad text opens))
    (λ tag opens. c.update-in-Open.ensures.opens (cipher key) nonce tag aad text opens)
    (λ tag opens. c.update-in-Open.ensures.given (cipher key) nonce tag aad text opens)).holds

pub returns-in-Open-clause-joined : goal.returns-in-Open-clause-joined
returns-in-Open-clause-joined c = λ plan key nonce aad text holds.
    let h = rw c.in-Open.is at holds in
    let room : length c.args.input.now ≤ length c.args.out.now = rw c.in-Open.is at c.requires in
    let size : length (take c.update-in-Open.result c.update-in-Open.new.out) ≡ c.update-in-Open.result = length-take-le c.update-in-Open.result c.update-in-Open.new.out (omega arith) in
    (open_more c.in-Open.open c.update-in-Open.new.self plan key nonce aad text c.args.input.now (take c.update-in-Open.result c.update-in-Open.new.out) h
    (λ tag opens. rw size (c.update-in-Open.ensures.count (cipher key) nonce tag aad text opens))
    (λ tag opens. c.update-in-Open.ensures.opens (cipher key) nonce tag aad text opens)
    (λ tag opens. c.update-in-Open.ensures.given (cipher key) nonce tag aad text opens)).joined

pub returns-in-Sign-clause-holds : goal.returns-in-Sign-clause-holds
returns-in-Sign-clause-holds c = λ plan key nonce aad text holds.
    let h = rw c.in-Sign.is at holds in
    (sign_more c.in-Sign.mac c.update-in-Sign.new.self c.in-Sign.size plan key nonce aad text c.args.input.now h (λ digest mac. c.update-in-Sign.ensures digest key text mac)).holds

pub returns-in-Sign-clause-joined : goal.returns-in-Sign-clause-joined
returns-in-Sign-clause-joined c = λ plan key nonce aad text holds.
    let h = rw c.in-Sign.is at holds in
    (sign_more c.in-Sign.mac c.update-in-Sign.new.self c.in-Sign.size plan key nonce aad text c.args.input.now h (λ digest mac. c.update-in-Sign.ensures digest key text mac)).joined

pub returns-in-Verify-clause-holds : goal.returns-in-Verify-clause-holds
returns-in-Verify-clause-holds c = λ plan key nonce aad text holds.
    let h = rw c.in-Verify.is at holds in
    (verify_more c.in-Verify.mac c.update-in-Verify.new.self c.in-Verify.least plan key nonce aad text c.args.input.now h (λ digest mac. c.update-in-Verify.ensures digest key text mac)).holds

pub returns-in-Verify-clause-joined : goal.returns-in-Verify-clause-joined
returns-in-Verify-clause-joined c = λ plan key nonce aad text holds.
    let h = rw c.in-Verify.is at holds in
    (verify_more c.in-Verify.mac c.update-in-Verify.new.self c.in-Verify.least plan key nonce aad text c.args.input.now h (λ digest mac. c.update-in-Verify.ensures digest key text mac)).joined
