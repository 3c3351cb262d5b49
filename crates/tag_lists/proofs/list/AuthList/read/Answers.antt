use Rattle.std.proofs.Common.{ap, subst, ◌∙◌, arith}
use Rattle.tag_lists.specs.Reading.{Gives, listed}
use Rattle.tag_lists.proofs.Laws.{is_found, is_canonical, is_few, listed_again}
use Rattle.tag_lists.proofs.Sizes.{is_small}
use Rattle.tag_lists.proofs.list.AuthList.read.Goals as goal

pub returns-clause-found : goal.returns-clause-found
returns-clause-found c = is_found c.args.bytes.now c.list_of.result (λ i. omega (arith, c.type_inv.bytes i)) c.list_of.ensures

pub returns-clause-only : goal.returns-clause-only
returns-clause-only c = λ order few may e. subst (λ f. Gives (λ list. list) c.list_of.result f) (ap listed e ∙ listed_again order few may) c.list_of.ensures

pub returns-clause-canonical : goal.returns-clause-canonical
returns-clause-canonical c = is_canonical c.args.bytes.now c.list_of.result (λ i. omega (arith, c.type_inv.bytes i)) c.list_of.ensures

pub returns-clause-few : goal.returns-clause-few
returns-clause-few c = is_few c.args.bytes.now c.list_of.result (λ i. omega (arith, c.type_inv.bytes i)) c.list_of.ensures

pub returns-clause-small : goal.returns-clause-small
returns-clause-small c = is_small c.args.bytes.now c.list_of.result (λ i. omega (arith, c.type_inv.bytes i)) c.list_of.ensures
