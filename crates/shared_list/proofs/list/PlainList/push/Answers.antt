use Rattle.shared_list.proofs.list.PlainList.push.Goals as goal

pub returns-clause-ok : goal.returns-clause-ok
returns-clause-ok c = c.in_ok-push.ensures.items
