use Rattle.std.proofs.Common.{◌≡◌, ℕ, List, ◌++◌, length, take, arith, ap, ◌∙◌}
use Rattle.std.proofs.lemmas.List.{take_at}
use Rattle.cipher_ops.specs.Standing.{given}
use Rattle.cipher_ops.proofs.Pieces.{done, before_end, before_is, end_out, end_fault}
use Rattle.cipher_ops.proofs.state.CipherState.last.Goals as goal

pub returns-in-Ok : goal.returns-in-Ok
returns-in-Ok c = λ plan limited key nonce aad text stands.
    let whole : length c.complete.new.out ≡ c.args.out.len = omega arith in
    let bytes : c.of.result ≡ take c.in-Ok.size c.complete.new.out = c.of.ensures ∙ c.truncate.ensures.items ∙ ap (λ (l : List ℕ). take c.in-Ok.size l) (take_at c.complete.new.out _ c.args.out.len whole) in
    let holds = rw (← c.into_inner.ensures) at stands.transform in
    let before : List ℕ = before_end limited (given plan key nonce text) in
    let joined = ap (λ (l : List ℕ). before ++ l) c.as_slice.ensures ∙ before_is limited c.args.self.held (given plan key nonce text) stands.held_is in
    ap done bytes ∙ end_out plan limited key nonce aad text (text ++ c.args.input.now) (take c.in-Ok.size c.complete.new.out) c.args.signature stands.transform.within
    (c.in-Ok.ensures.ends plan key nonce aad text before holds joined)

pub returns : goal.returns
returns c = λ plan limited key nonce aad text stands.
    let holds = rw (← c.into_inner.ensures) at stands.transform in
    let before : List ℕ = before_end limited (given plan key nonce text) in
    let joined = ap (λ (l : List ℕ). before ++ l) c.as_slice.ensures ∙ before_is limited c.args.self.held (given plan key nonce text) stands.held_is in
    end_fault plan limited key nonce aad text (text ++ c.args.input.now) c.args.signature c.in-Err.code
    (c.in-Err.ensures.ends plan key nonce aad text before holds joined)
