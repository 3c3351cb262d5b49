-- What comes out for the blocks, and how many bytes that is.
use Rattle.std.proofs.Common.{◌≡◌, ℕ, ◌/◌, List, length, drop, ap, ◌∙◌, arith}
use Rattle.std.specs.List.{concat}
use Rattle.std.proofs.lemmas.List.{take_at}
use Rattle.block_modes.specs.Steps.{through}
use Rattle.block_modes.proofs.LaneLemmas.{through_outs}
use Rattle.cipher_ops.specs.Standing.{aes, aes_inverse}
use Rattle.whole_outputs.specs.Chains.{plan_in}
use Rattle.whole_outputs.proofs.Hashing.{chunks_are}
use Rattle.whole_outputs.proofs.chained.Chained.pass.Goals as goal

pub returns-clause-made : goal.returns-clause-made
returns-clause-made c =
    let s = c.args.self.now in
    let e = aes s.cipher in
    let d = aes_inverse s.cipher in
    let made : List (List ℕ) = c.pass_all-next.new.made in
    let whole : length made ≡ c.in_ok-made.made.len = omega arith in
    let kept : c.deref.result.now ≡ made = c.deref.ensures.value ∙ take_at made (drop (length made) c.in_ok-made.made.items) c.in_ok-made.made.len whole in
    c.in_ok-out.ensures.items ∙ c.as_flattened.ensures.value
    ∙ ap (λ (l : List (List ℕ)). concat l) (kept ∙ c.pass_all-next.ensures.made s.padded)
    ∙ through_outs e d (plan_in s) s.chain c.as_chunks.result.0.now
    ∙ ap (λ (l : List (List ℕ)). through e d (plan_in s) s.chain l) (c.as_chunks.ensures.front ∙ chunks_are (length c.args.part.now / 16) c.args.part.now)
