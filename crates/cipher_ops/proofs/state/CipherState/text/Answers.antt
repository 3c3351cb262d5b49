use Rattle.std.proofs.Common.{◌≡◌, ℕ, List, [], ◌++◌, length, take, arith, sym, ap, ◌∙◌}
use Rattle.std.proofs.lemmas.List.{take_at}
use Rattle.cipher_ops.specs.Standing.{given}
use Rattle.cipher_ops.proofs.Pieces.{kept_all, kept_none, nothing_out, piece_out}
use Rattle.cipher_ops.proofs.state.CipherState.text.Goals as goal

pub returns-then-self-clause-stands : goal.returns-then-self-clause-stands
returns-then-self-clause-stands c = λ plan limited key nonce aad text stands.
    let holds = rw (← c.deref_mut.ensures.value) at stands.transform in
    let whole : length c.advance-end.new.out ≡ c.args.out.len = omega arith in
    let bytes : c.of-bytes.result ≡ take c.advance-end.result c.advance-end.new.out = c.of-bytes.ensures ∙ c.truncate.ensures.items ∙ ap (λ (l : List ℕ). take c.advance-end.result l) (take_at c.advance-end.new.out _ c.args.out.len whole) in
    record {
      transform = c.advance-end.ensures.holds plan key nonce aad text holds;
      limited_is = stands.limited_is;
      held_is = bytes ∙ kept_all limited c.args.self.now.held (take c.advance-end.result c.advance-end.new.out) (given plan key nonce text) (given plan key nonce (text ++ c.args.input.now))
          (sym stands.limited_is ∙ c.if-self.true) stands.held_is
          (λ joined. c.advance-end.ensures.joined plan key nonce aad text [] holds (c.as_slice.ensures ∙ joined));
    }

pub returns-else-self-clause-stands : goal.returns-else-self-clause-stands
returns-else-self-clause-stands c = λ plan limited key nonce aad text stands.
    let holds = rw (← c.deref_mut.ensures.value) at stands.transform in
    record {
      transform = c.advance-end.ensures.holds plan key nonce aad text holds;
      limited_is = stands.limited_is;
      held_is = kept_none limited c.args.self.now.held (given plan key nonce text) (given plan key nonce (text ++ c.args.input.now)) (sym stands.limited_is ∙ c.if-self.false) stands.held_is;
    }

pub returns-else-self-clause-output : goal.returns-else-self-clause-output
returns-else-self-clause-output c = λ plan limited key nonce aad text stands.
    let holds = rw (← c.deref_mut.ensures.value) at stands.transform in
    let whole : length c.advance-end.new.out ≡ c.args.out.len = omega arith in
    let bytes : c.of-bytes.result ≡ take c.advance-end.result c.advance-end.new.out = c.of-bytes.ensures ∙ c.truncate.ensures.items ∙ ap (λ (l : List ℕ). take c.advance-end.result l) (take_at c.advance-end.new.out _ c.args.out.len whole) in
    let now : List ℕ = given plan key nonce text in
    bytes ∙ piece_out plan limited key nonce text (text ++ c.args.input.now) c.args.self.now.held (take c.advance-end.result c.advance-end.new.out)
    (sym stands.limited_is ∙ c.if-self.false) stands.transform.within stands.held_is
    (λ joined. c.advance-end.ensures.joined plan key nonce aad text now holds (ap (λ (l : List ℕ). now ++ l) c.as_slice.ensures ∙ joined))

pub returns-then-self-clause-output : goal.returns-then-self-clause-output
returns-then-self-clause-output c = λ plan limited key nonce aad text stands.
    c.requires.nothing ∙ nothing_out plan limited key nonce text (text ++ c.args.input.now) (sym stands.limited_is ∙ c.if-self.true)
