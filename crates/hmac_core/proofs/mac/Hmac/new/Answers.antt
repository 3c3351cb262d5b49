use Rattle.hmac_core.proofs.mac.Hmac.new.Goals as goal

pub returns-in-4 : goal.returns-in-4
returns-in-4 c = (c.in-4.is, c.new-in-4.ensures)
