use Rattle.std.proofs.Common.{◌∙◌, sym, ap}
use Rattle.std.specs.Prelude.{is_some}
use Rattle.grants.specs.Rows.{is_numbered}
use Rattle.key_maps.proofs.Tests.{any_is_found, copied_some}
use Rattle.lasting_table.proofs.part.Part.meets.Goals as goal

pub returns-in-Ungrant : goal.returns-in-Ungrant
returns-in-Ungrant c =
    rw (c.in-Ungrant.is) (c.is_some.ensures ∙ sym (copied_some c.find.result) ∙ ap is_some c.find.ensures.row ∙ sym (any_is_found (is_numbered c.in-Ungrant.grant) c.args.self.now.grants.rows))
