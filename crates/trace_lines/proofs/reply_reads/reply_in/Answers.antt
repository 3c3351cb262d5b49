use Rattle.std.proofs.Common.{◌≡◌, to_z, of_z, w64, rules, sym}
use Rattle.std.proofs.lemmas.Int.{to_z-of_z}
use mir.Val.{SFits}
use Rattle.serde_json.specs.View.{view}
use Rattle.trace_lines.proofs.Numbered.{reply_found}
use Rattle.trace_lines.proofs.reply_reads.reply_in.Goals as goal

pub returns : goal.returns
returns c =
    let fits : SFits w64 c.in_ok-number.number = search rules in
    let same : to_z w64 (of_z w64 c.in_ok-number.number) ≡ c.in_ok-number.number = to_z-of_z w64 c.in_ok-number.number fits in
    reply_found c.reply_numbered.result (view c.args.object.now) (view c.in-Some.value.now) c.in_ok-number.number (sym c.in-Some.ensures) c.in_ok-number.ensures (rw same at c.reply_numbered.ensures)
