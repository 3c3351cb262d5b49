use Rattle.std.proofs.Common.{ap}
use Rattle.slot_chain.specs.Linked.{blank, owner_of, before_of, after_of}
use Rattle.slot_chain.proofs.Writes.{written, unwritten}
use Rattle.slot_chain.proofs.links.put_owner.Goals as goal

pub returns-clause-puts : goal.returns-clause-puts
returns-clause-puts c = written owner_of c.args.links.now.items c.args.place _ c.requires

pub returns-clause-befores : goal.returns-clause-befores
returns-clause-befores c = unwritten before_of c.args.links.now.items c.args.place _ c.requires blank (ap before_of c.link_at-link.ensures)

pub returns-clause-afters : goal.returns-clause-afters
returns-clause-afters c = unwritten after_of c.args.links.now.items c.args.place _ c.requires blank (ap after_of c.link_at-link.ensures)
