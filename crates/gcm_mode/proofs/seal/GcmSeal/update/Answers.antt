-- The text goes on.
use Rattle.std.proofs.Common.{◌≡◌, ℕ, ◌+◌, List, ◌++◌, length, drop, sym, ap, ◌∙◌, rules, length-append}
use Rattle.std.proofs.lemmas.List.{take_at}
use Rattle.gcm_mode.specs.Gcm.{hash_subkey, raw}
use Rattle.gcm_mode.proofs.Standing.{seals, sealed_more, seal_piece}
use Rattle.gcm_mode.proofs.seal.GcmSeal.update.Goals as goal

pub returns-clause-given : goal.returns-clause-given
returns-clause-given g c = λ cipher nonce tag aad text held.
    let front = take_at c.apply.new.bytes (drop (length c.args.input.now) c.args.out.now) (length c.args.input.now) (search rules) in
    sealed_more cipher nonce text c.args.input.now c.apply.new.bytes _ _ held.stream.nonce_len c.copy_from_slice.ensures.after front
    (c.apply.ensures.raw cipher nonce text held.stream)

pub returns-clause-piece : goal.returns-clause-piece
returns-clause-piece g c = λ cipher nonce tag aad text held.
    seal_piece cipher nonce text c.args.input.now _ held.stream.nonce_len (returns-clause-given g c cipher nonce tag aad text held)

pub returns-clause-seals : goal.returns-clause-seals
returns-clause-seals g c = λ cipher nonce tag aad text held.
    let more : raw cipher nonce text ++ c.apply.new.bytes ≡ raw cipher nonce (text ++ c.args.input.now) =
    c.apply.ensures.raw cipher nonce text held.stream ∙ ap (λ (l : List ℕ). raw cipher nonce (text ++ l)) c.copy_from_slice.ensures.after in
    let size : length text + length c.copy_from_slice.new.self ≡ length (text ++ c.args.input.now) =
    ap (λ (l : List ℕ). length text + length l) c.copy_from_slice.ensures.after ∙ sym (length-append text c.args.input.now) in
    seals g.C.BlockCipher.cipher _ cipher nonce tag aad (text ++ c.args.input.now)
    (rw (← size) (c.apply.ensures.stream cipher nonce (length text) held.stream))
    (rw (← more) (c.text.ensures (hash_subkey cipher) aad (raw cipher nonce text) held.hash)) held.tag_is
