-- The bytes up to a block's edge, the whole blocks and the rest.
use Rattle.std.proofs.Common.{◌≡◌, ℕ, ◌+◌, ◌%◌, ◌++◌, List, length, refl, ap, subst, arith}
use Rattle.gcm_mode.specs.Gcm.{raw}
use Rattle.gcm_mode.specs.Parts.{Streams, key_byte}
use Rattle.gcm_mode.proofs.KeyStream.{raw-append}
use Rattle.gcm_mode.proofs.Blockwise.{in_three}
use Rattle.gcm_mode.proofs.stream.Gctr.apply.Goals as goal

pub returns-then-bytes-first-clause-raw : goal.returns-then-bytes-first-clause-raw
returns-then-bytes-first-clause-raw g c = λ cipher nonce text held.
    rw (raw-append cipher nonce text c.args.bytes.now held.nonce_len, c.apply_each.ensures.bytes cipher nonce (length text) held) refl

pub returns-clause-raw : goal.returns-clause-raw
returns-clause-raw g c = λ cipher nonce text held.
    let n : ℕ = length text in
    let front = c.split_at_mut-front.result.0.now in
    let blocks = c.split_at_mut-blocks.result.0.now in
    let first = c.apply_each-2.ensures.stream cipher nonce n held in
    let due : (n + length front) % 16 ≡ 0 = omega (arith, c.split_at_mut-front.ensures.front_len, held.used) in
    let second = c.apply_blocks.ensures.stream cipher nonce (n + length front) first due in
    rw (raw-append cipher nonce text c.args.bytes.now held.nonce_len)
    (ap (λ (l : List ℕ). raw cipher nonce text ++ l)
    (in_three (key_byte cipher nonce) n c.args.bytes.now front c.split_at_mut-front.result.1.now blocks c.split_at_mut-blocks.result.1.now c.apply_each-2.new.bytes c.apply_blocks.new.bytes c.apply_each-3.new.bytes
    c.split_at_mut-front.ensures.value c.split_at_mut-blocks.ensures.value (c.apply_each-2.ensures.bytes cipher nonce n held) (c.apply_blocks.ensures.bytes cipher nonce (n + length front) first due)
    (c.apply_each-3.ensures.bytes cipher nonce (n + length front + length blocks) second)))

pub returns-clause-stream : goal.returns-clause-stream
returns-clause-stream g c = λ cipher nonce n held.
    let front = c.split_at_mut-front.result.0.now in
    let blocks = c.split_at_mut-blocks.result.0.now in
    let first = c.apply_each-2.ensures.stream cipher nonce n held in
    let due : (n + length front) % 16 ≡ 0 = omega (arith, c.split_at_mut-front.ensures.front_len, held.used) in
    let second = c.apply_blocks.ensures.stream cipher nonce (n + length front) first due in
    let all : n + length front + length blocks + length c.split_at_mut-blocks.result.1.now ≡ n + length c.args.bytes.now =
    omega (arith, c.split_at_mut-front.ensures.front_len, c.split_at_mut-front.ensures.back_len, c.split_at_mut-blocks.ensures.front_len, c.split_at_mut-blocks.ensures.back_len) in
    let P : ℕ → Type 0 = λ k. Streams g.C.BlockCipher.cipher c.apply_each-3.new.self cipher nonce k in
    subst P all (c.apply_each-3.ensures.stream cipher nonce (n + length front + length blocks) second)
