use Rattle.std.proofs.Common.{not, sym, ap, ◌∙◌}
use Rattle.std.specs.Prelude.{is_some}
use Rattle.key_maps.proofs.Tests.{keys_below, none_test}
use Rattle.key_maps.proofs.keys.Keys.are_below.Goals as goal

pub returns : goal.returns
returns c =
    none_test c.next_after.result c.is_none.result c.is_none.ensures
    ∙ ap (λ found. not (is_some found)) c.next_after.ensures.key ∙ sym (keys_below c.args.id c.args.self.now.rows c.requires)
