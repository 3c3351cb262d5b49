use Rattle.std.proofs.Common.{◌≡◌, Some, sym, ap, ◌∙◌, arith}
use Rattle.std.specs.Prelude.{find}
use Rattle.std.specs.Option.{option_copied}
use Rattle.journal_records.specs.LastingPart.{has_id}
use Rattle.lasting_table.specs.Parts.{parts_bytes}
use Rattle.lasting_table.proofs.Lengths.{parts_found}
use Rattle.lasting_table.proofs.part.Part.parts_bytes.Goals as goal

pub overflow_add-result : goal.overflow_add-result
overflow_add-result c =
    let rows = c.args.self.now.keys.rows in
    let found : find (has_id c.args.id) rows ≡ Some c.in-Some.key.now = sym c.numbered.ensures.key ∙ ap option_copied c.in-Some.is in
    record { fits = omega (arith, parts_found c.args.id rows, ap parts_bytes found, c.args.self.now.long, c.is_wide.ensures, c.len.ensures, c.len-in-Some.ensures) }
