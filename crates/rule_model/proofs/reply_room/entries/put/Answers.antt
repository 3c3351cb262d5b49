use Rattle.rule_model.proofs.reply_room.entries.put.Goals as goal

pub returns-clause-items : goal.returns-clause-items
returns-clause-items c = c.in-Ok.ensures.items
