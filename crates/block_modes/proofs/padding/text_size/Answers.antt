use Rattle.std.proofs.Common.{◌-◌, Bool, cond, get_or, take, Some, None, refl, ◌∙◌, ap}
use Rattle.block_modes.proofs.PadLemmas.{unpad_last}
use Rattle.block_modes.proofs.padding.text_size.Goals as goal

pub returns-then-all_equal-clause-text : goal.returns-then-all_equal-clause-text
returns-then-all_equal-clause-text c =
    let block = c.args.block.now in
    let size = get_or block 15 0 in
    unpad_last block size c.all_equal.result c.told-block refl c.if-size-lt1.false c.if-size-gt16.false c.all_equal.ensures
    ∙ ap (λ (right : Bool). cond right (Some (take (16 - size) block)) None) c.if-all_equal.true

pub returns-else-all_equal-clause-text : goal.returns-else-all_equal-clause-text
returns-else-all_equal-clause-text c =
    let block = c.args.block.now in
    let size = get_or block 15 0 in
    unpad_last block size c.all_equal.result c.told-block refl c.if-size-lt1.false c.if-size-gt16.false c.all_equal.ensures
    ∙ ap (λ (right : Bool). cond right (Some (take (16 - size) block)) None) c.if-all_equal.false
