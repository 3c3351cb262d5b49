-- The front of what waited and the piece went through the mode.
use Rattle.std.proofs.Common.{◌≡◌, ℕ, List, ◌++◌, length, refl, ap, ◌∙◌, arith}
use Rattle.whole_outputs.specs.Sizes.{done_size}
use Rattle.whole_outputs.proofs.CarryLemmas.{parts_joined, passes_more, part_out}
use Rattle.whole_outputs.proofs.carried.Carried.update.Goals as goal

pub returns-clause-carries : goal.returns-clause-carries
returns-clause-carries c = λ plan limited key nonce aad text held.
    let s = c.args.self.now in
    let input : List ℕ = c.args.input.now in
    let part : List ℕ = c.split_at.result.0.now in
    let rest : List ℕ = c.split_at.result.1.now in
    let joined : part ++ rest ≡ s.waiting.items ++ input =
    parts_joined s.waiting.items c.deref.result.now input c.in_ok-piece.piece.items c.deref-2.result.now part rest c.goes.result c.deref.ensures.value c.in_ok-piece.ensures c.deref-2.ensures.value
    c.split_at.ensures.front c.split_at.ensures.back in
    let same : c.deref-2.result.now ≡ s.waiting.items ++ input = c.deref-2.ensures.value ∙ c.in_ok-piece.ensures ∙ ap (λ (l : List ℕ). l ++ input) c.deref.ensures.value in
    let count : c.len.result ≡ length (s.waiting.items ++ input) = omega (arith, c.len.ensures, c.deref-2.ensures.len, ap length same) in
    let mode = rw (← c.deref-3.ensures) at held.mode in
    let size : length part ≡ done_size plan (length (s.waiting.items ++ input)) =
    c.split_at.ensures.front_len ∙ c.goes.ensures.size plan key nonce aad held.done mode ∙ ap (done_size plan) count in
    let lent = rw (← c.deref_mut.ensures.value) at held.mode in
    passes_more s _ plan limited key nonce aad text input part rest held c.if-self.false joined size refl (c.in_ok-out.ensures.mode plan key nonce aad held.done lent) c.in_ok-waiting.ensures.items

pub returns-clause-output : goal.returns-clause-output
returns-clause-output c = λ plan limited key nonce aad text held.
    let s = c.args.self.now in
    let input : List ℕ = c.args.input.now in
    let part : List ℕ = c.split_at.result.0.now in
    let rest : List ℕ = c.split_at.result.1.now in
    let joined : part ++ rest ≡ s.waiting.items ++ input =
    parts_joined s.waiting.items c.deref.result.now input c.in_ok-piece.piece.items c.deref-2.result.now part rest c.goes.result c.deref.ensures.value c.in_ok-piece.ensures c.deref-2.ensures.value
    c.split_at.ensures.front c.split_at.ensures.back in
    let same : c.deref-2.result.now ≡ s.waiting.items ++ input = c.deref-2.ensures.value ∙ c.in_ok-piece.ensures ∙ ap (λ (l : List ℕ). l ++ input) c.deref.ensures.value in
    let count : c.len.result ≡ length (s.waiting.items ++ input) = omega (arith, c.len.ensures, c.deref-2.ensures.len, ap length same) in
    let mode = rw (← c.deref-3.ensures) at held.mode in
    let size : length part ≡ done_size plan (length (s.waiting.items ++ input)) =
    c.split_at.ensures.front_len ∙ c.goes.ensures.size plan key nonce aad held.done mode ∙ ap (done_size plan) count in
    let lent = rw (← c.deref_mut.ensures.value) at held.mode in
    c.of.ensures
    ∙ part_out s c.pass.new.self plan limited key nonce aad text input part rest c.in_ok-out.out.items held c.if-self.false joined size
    (c.in_ok-out.ensures.mode plan key nonce aad held.done lent) (c.in_ok-out.ensures.made plan key nonce aad held.done lent)
