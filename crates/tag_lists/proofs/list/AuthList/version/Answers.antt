use Rattle.std.proofs.Common.{arith, ◌∙◌, ap}
use Rattle.std.specs.Prelude.{unwrap_or}
use Rattle.tag_lists.proofs.Numbers.{version_small}
use Rattle.tag_lists.proofs.list.AuthList.version.Goals as goal

pub overflow_cast-result : goal.overflow_cast-result
overflow_cast-result c =
    let is = c.unwrap_or.ensures ∙ ap (λ found. unwrap_or found 0) c.number.ensures in
    omega (arith, version_small c.args.tag c.args.self.now c.requires c.params-params.ensures.canonical, is)
