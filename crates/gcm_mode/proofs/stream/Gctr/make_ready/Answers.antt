-- The block that was due was made.
use Rattle.std.proofs.Common.{ap, ◌∙◌}
use Rattle.gcm_mode.proofs.Streaming.{ready_next}
use Rattle.gcm_mode.proofs.stream.Gctr.make_ready.Goals as goal

pub returns-then-self-eq0 : goal.returns-then-self-eq0
returns-then-self-eq0 g c = λ cipher nonce n held.
    let next = c.next_counter-block.ensures.counter in
    ready_next g.C.BlockCipher.cipher c.args.self.now _ cipher nonce n held c.if-self-eq0.true (ap (λ s. s.cipher) next) (ap (λ s. s.nonce) next) (ap (λ s. s.counter) next) (ap (λ s. s.used) next)
    (c.encrypt-self.ensures ∙ ap (λ s. g.C.BlockCipher.cipher s.cipher c.next_counter-block.result) next ∙ ap (g.C.BlockCipher.cipher c.args.self.now.cipher) c.next_counter-block.ensures.block)
