use Rattle.std.proofs.Common.{ap, sym, ◌∙◌}
use Rattle.aes_core.specs.State.{inv_sub_bytes, add_round_key}
use Rattle.aes_wide.specs.Planes.{standing}
use Rattle.aes_wide.specs.Steps.{constant}
use Rattle.aes_wide.proofs.UnboxLemmas.{unboxed_standing}
use Rattle.aes_wide.proofs.MovedLemmas.{unshift_moved}
use Rattle.aes_wide.proofs.planes.unsubbed.Goals as goal

pub returns-clause-blocks : goal.returns-clause-blocks
returns-clause-blocks c = λ b.
    unboxed_standing c.rows_unshifted.result c.unboxed.result b c.rows_unshifted.ensures.whole c.unboxed.ensures.columns
    ∙ ap (λ t. inv_sub_bytes (add_round_key t constant)) (c.rows_unshifted.ensures.blocks b)
    ∙ ap inv_sub_bytes (sym (unshift_moved (standing c.args.x b)))
