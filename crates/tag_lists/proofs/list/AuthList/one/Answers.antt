use Rattle.std.proofs.Common.{◌≡◌, ◌∙◌, ap}
use Rattle.std.specs.Prelude.{slice_get}
use Rattle.tag_lists.specs.Lookups.{is_of, all_of}
use Rattle.tag_lists.proofs.Lookups.{find-filter}
use Rattle.tag_lists.proofs.list.AuthList.one.Goals as goal

pub returns : goal.returns
returns c =
    let same : c.deref.result.now ≡ c.args.self.now = cc in
    c.first.ensures.value ∙ ap (λ ps. slice_get ps 0) (c.of_tag.ensures ∙ ap (all_of c.args.tag) same) ∙ find-filter (is_of c.args.tag) c.args.self.now
