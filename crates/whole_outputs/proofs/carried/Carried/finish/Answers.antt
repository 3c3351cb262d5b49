-- What waited and the last piece end the text.
use Rattle.std.proofs.Common.{◌≡◌, ℕ, List, ◌++◌, length, sym, ap, ◌∙◌, subst}
use Rattle.cipher_ops.specs.Output.{behind, whole}
use Rattle.whole_outputs.specs.Modes.{MayEnd}
use Rattle.whole_outputs.specs.Sizes.{out_size}
use Rattle.whole_outputs.proofs.CarryLemmas.{may_end, ended}
use Rattle.whole_outputs.proofs.ModeLemmas.{in_ok}
use Rattle.whole_outputs.proofs.carried.Carried.finish.Goals as goal

pub returns : goal.returns
returns c = λ plan limited key nonce aad text held.
    let s = c.args.self in
    let input : List ℕ = c.args.input.now in
    let same : c.deref-2.result.now ≡ s.waiting.items ++ input = c.deref-2.ensures.value ∙ c.in_ok-rest.ensures ∙ ap (λ (l : List ℕ). l ++ input) c.deref.ensures.value in
    let mode = rw (← c.into_inner.ensures) at held.mode in
    let may = subst (λ (l : List ℕ). MayEnd plan (length held.done) (length l)) (sym same) (may_end s plan limited key nonce aad text input held) in
    in_ok c.end.result _ _
    (λ output is. ended s plan limited key nonce aad text input c.args.signature.now output held
    (is ∙ ap (λ (l : List ℕ). behind (out_size plan (length held.done)) (whole plan key nonce aad (held.done ++ l) c.args.signature.now)) same))
    (c.end.ensures plan key nonce aad held.done mode may)
