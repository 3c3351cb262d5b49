-- The write stands behind the others, and its piece behind theirs.
use Rattle.std.proofs.Common.{◌≡◌, ◌++◌, ◌∷◌, [], length, map, ◌∙◌, rules, arith}
use Rattle.disk_model.specs.declared.calls.KeptCall.TheVariants as kinds
use Rattle.disk_model.specs.Texts.{call_in}
use Rattle.disk_model.proofs.TextLemmas.{pushed_write}
use Rattle.disk_model.proofs.calls.CallList.push_write.Goals as goal

pub returns-clause-made : goal.returns-clause-made
returns-clause-made c =
    let text : c.extend_from_slice.new.self.items ≡ c.self.inside.text.items ++ c.args.piece.now = search rules in
    let made : c.push.new.self.items ≡ c.self.inside.made.items ++ kinds.Wrote c.args.at c.len-start.result (length c.args.piece.now) ∷ [] = search rules in
    (λ i. map (call_in (text i)) (made i))
    ∙ pushed_write c.self.inside.text.items c.args.piece.now c.self.inside.made.items c.args.at c.len-start.result c.self.invariant (omega (arith, c.len-start.ensures))
    ∙ search rules
