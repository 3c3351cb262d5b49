use Rattle.key_domains.proofs.view.owner_of.Goals as goal

pub returns-in-0 : goal.returns-in-0
returns-in-0 c = rw c.in-0.is
