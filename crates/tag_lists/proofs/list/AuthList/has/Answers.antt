use Rattle.std.proofs.Common.{◌≡◌, ◌∙◌, ap}
use Rattle.std.specs.List.{list_any}
use Rattle.tag_lists.specs.Lookups.{is_of, is_number, all_of}
use Rattle.tag_lists.proofs.Lookups.{list_any-filter}
use Rattle.tag_lists.proofs.list.AuthList.has.Goals as goal

pub returns : goal.returns
returns c =
    let same : c.deref.result.now ≡ c.args.self.now = cc in
    c.any_number.ensures ∙ ap (list_any (λ p. is_number c.args.value p.value)) (c.of_tag.ensures ∙ ap (all_of c.args.tag) same) ∙ list_any-filter (is_of c.args.tag) (λ p. is_number c.args.value p.value) c.args.self.now
