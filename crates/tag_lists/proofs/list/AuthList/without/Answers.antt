use Rattle.std.proofs.Common.{not, ◌≡◌, ◌∙◌, ap, rules, subst, sym}
use Rattle.std.proofs.lemmas.Fn.{filter_same}
use Rattle.tag_lists.specs.Order.{IsCanonical}
use Rattle.tag_lists.specs.Lookups.{is_of, without}
use Rattle.tag_lists.proofs.Edits.{canonical-without, length_filter}
use Rattle.tag_lists.proofs.Sizes.{small_filter}
use Rattle.tag_lists.proofs.list.AuthList.without.Goals as goal

pub invariant_of-result : goal.invariant_of-result
invariant_of-result c =
    let own : c.self.inside.params.items ≡ c.args.self = cc in
    let kept : c.retain.new.self.items ≡ without c.args.tag c.self.inside.params.items = filter_same _ _ _ (λ x b f' k. search rules) _ _ c.retain.ensures.filtered in
    subst IsCanonical (sym kept) (canonical-without c.args.tag c.self.inside.params.items c.self.invariant)

pub returns-clause-list : goal.returns-clause-list
returns-clause-list c =
    let own : c.self.inside.params.items ≡ c.args.self = cc in
    let kept : c.retain.new.self.items ≡ without c.args.tag c.self.inside.params.items = filter_same _ _ _ (λ x b f' k. search rules) _ _ c.retain.ensures.filtered in
    kept ∙ ap (without c.args.tag) own

pub returns-clause-len : goal.returns-clause-len
returns-clause-len c =
    let own : c.self.inside.params.items ≡ c.args.self = cc in
    let kept : c.retain.new.self.items ≡ without c.args.tag c.self.inside.params.items = filter_same _ _ _ (λ x b f' k. search rules) _ _ c.retain.ensures.filtered in
    let all : c.retain.new.self.items ≡ without c.args.tag c.args.self = kept ∙ ap (without c.args.tag) own in
    rw all (length_filter (λ p. not (is_of c.args.tag p)) c.args.self)

pub returns-clause-small : goal.returns-clause-small
returns-clause-small c =
    let own : c.self.inside.params.items ≡ c.args.self = cc in
    let kept : c.retain.new.self.items ≡ without c.args.tag c.self.inside.params.items = filter_same _ _ _ (λ x b f' k. search rules) _ _ c.retain.ensures.filtered in
    let all : c.retain.new.self.items ≡ without c.args.tag c.args.self = kept ∙ ap (without c.args.tag) own in
    rw all (small_filter (λ p. not (is_of c.args.tag p)) c.args.self)
