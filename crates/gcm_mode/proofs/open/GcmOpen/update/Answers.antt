-- The text goes on, and its last bytes are held back.
use Rattle.std.proofs.Common.{◌≡◌, ◌+◌, ◌++◌, length, take, drop, sym, ◌∙◌, arith, rules}
use Rattle.std.proofs.lemmas.List.{take_at, length-take-le}
use Rattle.gcm_mode.specs.Gcm.{hash_subkey, open_front}
use Rattle.gcm_mode.proofs.Opening.{passes}
use Rattle.gcm_mode.proofs.Standing.{opens, opened_more, open_piece}
use Rattle.gcm_mode.proofs.open.GcmOpen.update.Goals as goal

pub returns-clause-count : goal.returns-clause-count
returns-clause-count g c = λ cipher nonce tag aad text held.
    let step =
    passes tag text c.args.input.now (take c.pass-given.result c.pass-given.new.out) c.pass-given.new.self.bytes (rw held.held at c.pass-given.ensures.joined)
    (rw (held.tag_is, held.held) at c.pass-given.ensures.kept) in
    let size : length (take c.pass-given.result c.pass-given.new.out) ≡ c.pass-given.result = length-take-le c.pass-given.result c.pass-given.new.out (omega arith) in
    let front : open_front tag (text ++ c.args.input.now) ≡ open_front tag text + length (take c.pass-given.result c.pass-given.new.out) = step.front in
    sym (rw size at front)

pub returns-clause-given : goal.returns-clause-given
returns-clause-given g c = λ cipher nonce tag aad text held.
    let step =
    passes tag text c.args.input.now (take c.pass-given.result c.pass-given.new.out) c.pass-given.new.self.bytes (rw held.held at c.pass-given.ensures.joined)
    (rw (held.tag_is, held.held) at c.pass-given.ensures.kept) in
    let front = take_at c.apply.new.bytes (drop c.pass-given.result c.pass-given.new.out) c.pass-given.result (search rules) in
    let size : length (take (open_front tag text) text) ≡ open_front tag text = length-take-le (open_front tag text) text (omega arith) in
    opened_more cipher nonce tag text c.args.input.now _ _ c.apply.new.bytes _ held.stream.nonce_len front step
    (c.apply.ensures.raw cipher nonce (take (open_front tag text) text) (rw size held.stream))

pub returns-clause-piece : goal.returns-clause-piece
returns-clause-piece g c = λ cipher nonce tag aad text held.
    open_piece cipher nonce tag text c.args.input.now _ held.stream.nonce_len (returns-clause-given g c cipher nonce tag aad text held)

pub returns-clause-opens : goal.returns-clause-opens
returns-clause-opens g c = λ cipher nonce tag aad text held.
    let step =
    passes tag text c.args.input.now (take c.pass-given.result c.pass-given.new.out) c.pass-given.new.self.bytes (rw held.held at c.pass-given.ensures.joined)
    (rw (held.tag_is, held.held) at c.pass-given.ensures.kept) in
    opens g.C.BlockCipher.cipher _ cipher nonce tag aad (text ++ c.args.input.now)
    (rw step.front (c.apply.ensures.stream cipher nonce (open_front tag text) held.stream))
    (rw step.before (c.text.ensures (hash_subkey cipher) aad (take (open_front tag text) text) held.hash)) (sym step.behind)
    (c.pass-given.ensures.most ∙ held.tag_is)
