use Rattle.std.proofs.Common.{◌≡◌, to_z, of_z, w64, rules}
use Rattle.std.proofs.lemmas.Int.{to_z-of_z}
use mir.Val.{SFits}
use Rattle.trace_lines.proofs.reply_reads.reply_numbered.Goals as goal

pub returns-in_err-fields : goal.returns-in_err-fields
returns-in_err-fields c =
    let fits : SFits w64 c.args.number = search rules in
    let same : to_z w64 (of_z w64 c.args.number) ≡ c.args.number = to_z-of_z w64 c.args.number fits in
    rw (← same) (search rules)

pub returns-then-are_equal : goal.returns-then-are_equal
returns-then-are_equal c =
    let fits : SFits w64 c.args.number = search rules in
    let same : to_z w64 (of_z w64 c.args.number) ≡ c.args.number = to_z-of_z w64 c.args.number fits in
    rw (← same) (search rules)

pub returns-in_default : goal.returns-in_default
returns-in_default c =
    let fits : SFits w64 c.args.number = search rules in
    let same : to_z w64 (of_z w64 c.args.number) ≡ c.args.number = to_z-of_z w64 c.args.number fits in
    rw (← same) (search rules)

pub returns : goal.returns
returns c =
    let fits : SFits w64 c.args.number = search rules in
    let same : to_z w64 (of_z w64 c.args.number) ≡ c.args.number = to_z-of_z w64 c.args.number fits in
    rw (← same) (search rules)
