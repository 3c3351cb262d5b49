use Rattle.std.proofs.Common.{◌≡◌, ℕ, ◌+◌, List, ◌++◌, length, take, sym, ap, ◌∙◌, arith, append_assoc}
use mathlib.Core.Logic.{∥∥₁_elim}
use Rattle.cipher_ops.proofs.Pieces.{front_of_both, done}
use Rattle.cipher_ops.proofs.Rooms.{may_end_now, MayEnd-prop}
use Rattle.cipher_ops.proofs.transform.Transform.complete.Goals as goal

pub finish-requires : goal.finish-requires
finish-requires c =
    ∥∥₁_elim c.requires.end (MayEnd-prop c.advance-at.new.self (length c.split_at_mut-back.result.1.now)) (λ can.
    let later = c.advance-at.ensures.holds can.plan can.key can.nonce can.aad can.text can.holds in
    let at = c.advance-at.ensures.room can.plan can.key can.nonce can.aad can.text can.holds in
    let enough = can.enough in
    may_end_now c.advance-at.new.self can.plan can.key can.nonce can.aad (can.text ++ c.args.input.now) (length c.split_at_mut-back.result.1.now) later.transform_is can.may (omega arith))

pub returns-in-Ok-clause-ends : goal.returns-in-Ok-clause-ends
returns-in-Ok-clause-ends c = λ plan key nonce aad text before holds joined.
    let later = c.advance-at.ensures.holds plan key nonce aad text holds in
    let front : before ++ take c.advance-at.result c.advance-at.new.out ≡ _ = c.advance-at.ensures.joined plan key nonce aad text before holds joined in
    let ends = c.in-Ok.ensures.ends plan key nonce aad (text ++ c.args.input.now) later in
    let both : take (c.advance-at.result + c.in-Ok.size) (c.split_at_mut-back.result.0.now ++ c.finish.new.out) ≡ take c.advance-at.result c.advance-at.new.out ++ take c.in-Ok.size c.finish.new.out =
    front_of_both c.split_at_mut-back.result.0.now c.finish.new.out c.advance-at.result c.in-Ok.size c.split_at_mut-back.ensures.front_len
    ∙ ap (λ (l : List ℕ). l ++ take c.in-Ok.size c.finish.new.out) c.split_at_mut-back.ensures.front in
    ends ∙ ap done (ap (λ (l : List ℕ). l ++ take c.in-Ok.size c.finish.new.out) (sym front)
    ∙ append_assoc before (take c.advance-at.result c.advance-at.new.out) (take c.in-Ok.size c.finish.new.out) ∙ ap (λ (l : List ℕ). before ++ l) (sym both))
