use Rattle.std.proofs.Common.{◌≡◌, Some, sym, ap, ◌∙◌, arith}
use Rattle.std.specs.Prelude.{find}
use Rattle.std.specs.Option.{option_copied}
use Rattle.journal_records.specs.LastingPart.{has_id}
use Rattle.lasting_table.proofs.Lengths.{bytes_found}
use Rattle.lasting_table.proofs.part.Part.row_bytes.Goals as goal

pub row_length-requires : goal.row_length-requires
row_length-requires c =
    let found : find (has_id c.args.id) c.args.self.now.keys.rows ≡ Some c.in-Some.key.now = sym c.numbered.ensures.key ∙ ap option_copied c.in-Some.is in
    omega (arith, bytes_found (has_id c.args.id) c.args.self.now.keys.rows c.in-Some.key.now found, c.args.self.now.long, c.is_wide.ensures)
