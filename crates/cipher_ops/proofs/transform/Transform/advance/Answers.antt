use Rattle.std.proofs.Common.{◌≡◌, ℕ, ◌+◌, List, ◌++◌, length, take, ap, ◌∙◌}
use Rattle.cipher_ops.proofs.Pieces.{front_of_both, joined_more}
use Rattle.cipher_ops.proofs.transform.Transform.advance.Goals as goal

pub returns-clause-joined : goal.returns-clause-joined
returns-clause-joined c = λ plan key nonce aad text before holds joined.
    let size : length c.copy_from_slice.new.self ≡ length c.args.held.now = ap length c.copy_from_slice.ensures.after in
    let both : take (length c.args.held.now + c.update.result) (c.copy_from_slice.new.self ++ c.update.new.out) ≡ c.args.held.now ++ take c.update.result c.update.new.out =
    front_of_both c.copy_from_slice.new.self c.update.new.out (length c.args.held.now) c.update.result size
    ∙ ap (λ (l : List ℕ). l ++ take c.update.result c.update.new.out) c.copy_from_slice.ensures.after in
    ap (λ (l : List ℕ). before ++ l) both ∙ joined_more before c.args.held.now _ _ _ joined (c.update.ensures.joined plan key nonce aad text holds)
