-- What the calls say one after another is what is said of the whole.
use Rattle.std.proofs.Common.{◌≡◌, ◌≤◌, ℕ, ◌+◌, List, [], ◌++◌, length, take, ap, sym, ◌∙◌, arith}
use Rattle.std.proofs.lemmas.List.{take_all}
use Rattle.aes_core.specs.Cipher.{cipher}
use Rattle.gcm_mode.specs.Gcm.{gcm_seal, gcm_open, seal_given}
use Rattle.key_blobs.specs.Blobs.{START}
use Rattle.key_blobs.proofs.sealing.seal_text.Goals as goal

pub finish-requires : goal.finish-requires
finish-requires c =
    let f : List ℕ → List ℕ = cipher c.args.key.now in
    let s0 = rw c.aes_of.ensures at c.new-seal.ensures in
    let s1 = c.aad.ensures.seals f c.args.nonce 16 [] s0 in
    let s2 = c.update.ensures.seals f c.args.nonce 16 _ [] s1 in
    omega (arith, s2.tag_is, c.split_at_mut-front.ensures.back_len, c.requires)

pub returns-clause-sealed : goal.returns-clause-sealed
returns-clause-sealed c =
    let f : List ℕ → List ℕ = cipher c.args.key.now in
    let s0 = rw c.aes_of.ensures at c.new-seal.ensures in
    let s1 = c.aad.ensures.seals f c.args.nonce 16 [] s0 in
    let s2 = c.update.ensures.seals f c.args.nonce 16 START [] s1 in
    let one = c.update.ensures.given f c.args.nonce 16 START [] s1 in
    let two = c.finish.ensures.sealed f c.args.nonce 16 START c.args.text.now s2 in
    let front_fits : length c.update.new.out ≤ c.update.result = omega (arith, c.update.ensures.count) in
    let back_fits : length c.finish.new.out ≤ c.finish.result = omega (arith, c.finish.ensures.count, s2.tag_is, c.split_at_mut-front.ensures.back_len, c.requires) in
    let front : take c.update.result c.update.new.out ≡ c.update.new.out = take_all c.update.result c.update.new.out front_fits in
    let back : take c.finish.result c.finish.new.out ≡ c.finish.new.out = take_all c.finish.result c.finish.new.out back_fits in
    let whole : c.update.new.out ++ c.finish.new.out ≡ gcm_seal f c.args.nonce 16 START c.args.text.now =
    ap (λ l. l ++ c.finish.new.out) (sym front ∙ one) ∙ ap (λ l. seal_given f c.args.nonce c.args.text.now ++ l) (sym back) ∙ two in
    whole

pub returns-clause-opens : goal.returns-clause-opens
returns-clause-opens c =
    let f : List ℕ → List ℕ = cipher c.args.key.now in
    let s0 = rw c.aes_of.ensures at c.new-seal.ensures in
    let s1 = c.aad.ensures.seals f c.args.nonce 16 [] s0 in
    let s2 = c.update.ensures.seals f c.args.nonce 16 START [] s1 in
    let one = c.update.ensures.given f c.args.nonce 16 START [] s1 in
    let two = c.finish.ensures.sealed f c.args.nonce 16 START c.args.text.now s2 in
    let front_fits : length c.update.new.out ≤ c.update.result = omega (arith, c.update.ensures.count) in
    let back_fits : length c.finish.new.out ≤ c.finish.result = omega (arith, c.finish.ensures.count, s2.tag_is, c.split_at_mut-front.ensures.back_len, c.requires) in
    let front : take c.update.result c.update.new.out ≡ c.update.new.out = take_all c.update.result c.update.new.out front_fits in
    let back : take c.finish.result c.finish.new.out ≡ c.finish.new.out = take_all c.finish.result c.finish.new.out back_fits in
    let whole : c.update.new.out ++ c.finish.new.out ≡ gcm_seal f c.args.nonce 16 START c.args.text.now =
    ap (λ l. l ++ c.finish.new.out) (sym front ∙ one) ∙ ap (λ l. seal_given f c.args.nonce c.args.text.now ++ l) (sym back) ∙ two in
    ap (gcm_open f c.args.nonce 16 START) whole ∙ c.finish.ensures.opens f c.args.nonce 16 START c.args.text.now s2
