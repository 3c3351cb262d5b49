-- The bytes from the padding's first on are all its size, or not.
use Rattle.std.proofs.Common.{ℕ, ◌-◌, Bool, cond, length, take, get_or, Some, None, refl, ap, ◌∙◌}
use Rattle.whole_outputs.proofs.EndOfBlocks.{unpad_told}
use Rattle.whole_outputs.proofs.padding.text_size.Goals as goal

pub returns-then-all_equal : goal.returns-then-all_equal
returns-then-all_equal c =
    let text = c.args.blocks.now in
    let size : ℕ = get_or text (length text - 1) 0 in
    unpad_told text size c.all_equal.result c.requires refl c.if-size-lt1.false c.if-size-gt16.false c.all_equal.ensures
    ∙ ap (λ (right : Bool). cond right (Some (take (length text - size) text)) None) c.if-all_equal.true

pub returns-else-all_equal : goal.returns-else-all_equal
returns-else-all_equal c =
    let text = c.args.blocks.now in
    let size : ℕ = get_or text (length text - 1) 0 in
    unpad_told text size c.all_equal.result c.requires refl c.if-size-lt1.false c.if-size-gt16.false c.all_equal.ensures
    ∙ ap (λ (right : Bool). cond right (Some (take (length text - size) text)) None) c.if-all_equal.false
