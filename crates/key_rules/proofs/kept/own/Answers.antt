use Rattle.std.proofs.Common.{◌≤◌, ◌∙◌, ap, length, subst, sym}
use Rattle.tags.specs.declared.tag.Tag.TheVariants.{ApplicationData, Nonce, MacLength, Origin, OsVersion, OsPatchlevel}
use Rattle.tag_lists.specs.Lookups.{without}
use Rattle.key_rules.specs.KeptLists.{dropped, is_kept}
use Rattle.key_rules.proofs.Dropped.{without_all_is}
use Rattle.tag_lists.proofs.Edits.{length_filter}
use Rattle.key_rules.proofs.kept.own.Goals as goal

pub returns-clause-own : goal.returns-clause-own
returns-clause-own c =
    c.without-7.ensures.list ∙ ap (without OsPatchlevel) (c.without-6.ensures.list ∙ ap (without OsVersion) (c.without-5.ensures.list ∙ ap (without Origin) (c.without-4.ensures.list ∙ ap (without MacLength) (c.without-3.ensures.list ∙ ap (without Nonce) (c.without-2.ensures.list ∙ ap (without ApplicationData) (c.without.ensures.list))))))
    ∙ without_all_is dropped c.args.list

pub returns-clause-room : goal.returns-clause-room
returns-clause-room c = subst (λ new. length new ≤ length c.args.list) (sym (returns-clause-own c)) (length_filter is_kept c.args.list)
