use Rattle.std.proofs.Common.{◌≡◌, length, ap, sym, ◌∙◌, rules}
use Rattle.tag_lists.specs.Spelling.{spelling}
use Rattle.tag_lists.specs.Reading.{listed}
use Rattle.std.specs.Prelude.{Ok}
use Rattle.key_blobs.specs.Text.{sealed_in}
use Rattle.key_blobs.proofs.TextLemmas.{sealed_again, text_long}
use Rattle.key_blobs.proofs.sealing.text_of.Goals as goal

pub returns-clause-again : goal.returns-clause-again
returns-clause-again c =
    let long : length c.args.sealed.now.root ≡ 32 = search rules in
    let back : listed (spelling c.args.sealed.now.list) ≡ Ok c.args.sealed.now.list = ap listed (sym c.in_ok-list.ensures.spells) ∙ c.in_ok-list.ensures.again in
    ap sealed_in c.in_ok-text.ensures ∙ sealed_again c.args.sealed.now long c.requires back

pub returns-clause-len : goal.returns-clause-len
returns-clause-len c =
    let long : length c.args.sealed.now.root ≡ 32 = search rules in
    ap length c.in_ok-text.ensures ∙ text_long c.args.sealed.now long
