-- The held bytes and the input, at their two places.
use Rattle.std.proofs.Common.{ap, ◌∙◌, arith, rules, ◌++◌}
use Rattle.gcm_mode.proofs.Opening.{passed}
use Rattle.gcm_mode.proofs.held.HeldBack.pass.Goals as goal

pub returns-clause-joined : goal.returns-clause-joined
returns-clause-joined c =
    passed c.self.inside.bytes c.args.input.now c.put_joined.new.out c.put_joined-2.new.out _ _ c.self.inside.len c.saturating_sub-given.result c.min-from_held.result _
    (search rules) (omega arith) (omega arith) (omega arith) (λ below. omega arith) c.put_joined.ensures c.put_joined-2.ensures
    ∙ ap (λ v. v.bytes ++ c.args.input.now) c.self.view_is
