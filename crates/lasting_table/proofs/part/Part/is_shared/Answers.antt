use Rattle.std.proofs.Common.{sym, ap, ◌∙◌}
use Rattle.std.specs.Prelude.{is_some}
use Rattle.grants.specs.Rows.{is_for}
use Rattle.key_maps.proofs.Tests.{any_is_found, copied_some}
use Rattle.lasting_table.proofs.part.Part.is_shared.Goals as goal

pub returns : goal.returns
returns c =
    c.is_some.ensures ∙ sym (copied_some c.of_key.result) ∙ ap is_some c.of_key.ensures.row
    ∙ sym (any_is_found (is_for c.args.key c.args.uid) c.args.self.now.grants.rows)
