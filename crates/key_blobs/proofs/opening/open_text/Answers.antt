-- What the calls say one after another is what is said of the whole.
use Rattle.std.proofs.Common.{◌≡◌, ℕ, List, [], Some, drop, ap, sym, ◌∙◌, arith}
use Rattle.aes_core.specs.Cipher.{cipher}
use Rattle.gcm_mode.specs.Gcm.{gcm_open}
use Rattle.key_blobs.specs.Blobs.{START, text_in}
use Rattle.key_blobs.proofs.opening.open_text.Goals as goal

pub finish-requires : goal.finish-requires
finish-requires c =
    let f : List ℕ → List ℕ = cipher c.args.key.now in
    let s0 = rw c.aes_of.ensures at c.new-open.ensures in
    let s1 = c.aad.ensures.opens f c.copy_from_slice.new.self 16 [] s0 in
    let s2 = c.update-size.ensures.opens f c.copy_from_slice.new.self 16 START [] s1 in
    s2.whole (omega (arith, c.split_at.ensures.back_len, c.requires.blob))

pub returns-in-Ok : goal.returns-in-Ok
returns-in-Ok c =
    let f : List ℕ → List ℕ = cipher c.args.key.now in
    let s0 = rw c.aes_of.ensures at c.new-open.ensures in
    let s1 = c.aad.ensures.opens f c.copy_from_slice.new.self 16 [] s0 in
    let s2 = c.update-size.ensures.opens f c.copy_from_slice.new.self 16 START [] s1 in
    let same : text_in c.args.key.now c.args.blob.now ≡ gcm_open f c.copy_from_slice.new.self 16 START c.split_at.result.1.now =
    ap (λ (l : List ℕ). gcm_open f l 16 START (drop 16 c.args.blob.now)) (sym c.copy_from_slice.ensures.after)
    ∙ ap (λ (l : List ℕ). gcm_open f c.copy_from_slice.new.self 16 START l) (sym c.split_at.ensures.back) in
    let given = c.update-size.ensures.given f c.copy_from_slice.new.self 16 START [] s1 in
    same
    ∙ (c.in-Ok.ensures.opened f c.copy_from_slice.new.self 16 START c.split_at.result.1.now s2).1
    ∙ ap (λ (l : List ℕ). Some l) (sym given)

pub returns-in-Err : goal.returns-in-Err
returns-in-Err c =
    let f : List ℕ → List ℕ = cipher c.args.key.now in
    let s0 = rw c.aes_of.ensures at c.new-open.ensures in
    let s1 = c.aad.ensures.opens f c.copy_from_slice.new.self 16 [] s0 in
    let s2 = c.update-size.ensures.opens f c.copy_from_slice.new.self 16 START [] s1 in
    let same : text_in c.args.key.now c.args.blob.now ≡ gcm_open f c.copy_from_slice.new.self 16 START c.split_at.result.1.now =
    ap (λ (l : List ℕ). gcm_open f l 16 START (drop 16 c.args.blob.now)) (sym c.copy_from_slice.ensures.after)
    ∙ ap (λ (l : List ℕ). gcm_open f c.copy_from_slice.new.self 16 START l) (sym c.split_at.ensures.back) in
    same ∙ c.in-Err.ensures.opened f c.copy_from_slice.new.self 16 START c.split_at.result.1.now s2
