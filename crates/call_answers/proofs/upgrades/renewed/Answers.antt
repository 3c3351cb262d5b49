use Rattle.std.proofs.Common.{◌≡◌, true, false, Some, refl, sym, ap, ◌∙◌}
use Rattle.tag_lists.specs.Versions.{is_no_older}
use Rattle.call_answers.proofs.upgrades.renewed.Goals as goal

pub returns-then-is_no_older-clause-sealed : goal.returns-then-is_no_older-clause-sealed
returns-then-is_no_older-clause-sealed c =
    let older : is_no_older c.args.device.now.os c.args.device.now.patch c.args.opened.list ≡ true = sym c.is_no_older.ensures ∙ c.if-is_no_older.true in
    rw older refl

pub returns-clause-sealed : goal.returns-clause-sealed
returns-clause-sealed c =
    let newer : is_no_older c.args.device.now.os c.args.device.now.patch c.args.opened.list ≡ false = sym c.is_no_older.ensures ∙ c.if-is_no_older.false in
    rw newer (ap Some c.in_ok-upgrade.ensures.sealed)
