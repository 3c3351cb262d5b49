use Rattle.std.proofs.Common.{◌≡◌, ap, ◌∙◌, subst}
use Rattle.tag_lists.specs.Order.{IsCanonical}
use Rattle.tag_lists.specs.Spelling.{spelling}
use Rattle.tag_lists.specs.Reading.{listed}
use Rattle.tag_lists.proofs.Laws.{canonical_again}
use Rattle.tag_lists.proofs.list.AuthList.write.Goals as goal

pub returns-clause-again : goal.returns-clause-again
returns-clause-again c =
    let same : c.deref.result.now ≡ c.args.self.now = cc in
    let own : c.self.inside.params.items ≡ c.args.self.now = cc in
    let spelled : c.of.result ≡ spelling c.args.self.now = c.of.ensures ∙ c.in_ok-spelling.ensures ∙ ap spelling same in
    ap listed spelled ∙ canonical_again c.args.self.now (subst IsCanonical own c.self.invariant)
