use Rattle.std.proofs.Common.{not, sym, ap, ◌∙◌}
use Rattle.std.specs.Prelude.{is_some}
use Rattle.key_maps.proofs.Tests.{none_test}
use Rattle.lasting_table.proofs.Lengths.{grants_below}
use Rattle.lasting_table.proofs.part.Part.are_grants_below.Goals as goal

pub returns : goal.returns
returns c =
    none_test c.next_after.result c.is_none.result c.is_none.ensures
    ∙ ap (λ found. not (is_some found)) c.next_after.ensures.row ∙ sym (grants_below c.args.number c.args.self.now.grants.rows c.requires)
