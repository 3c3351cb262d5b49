use Rattle.std.proofs.Common.{ap}
use Rattle.slot_chain.specs.Linked.{blank, owner_of, before_of, after_of}
use Rattle.slot_chain.proofs.Writes.{written, unwritten}
use Rattle.slot_chain.proofs.links.put_before.Goals as goal

pub returns-clause-puts : goal.returns-clause-puts
returns-clause-puts c = written before_of c.args.links.now.items c.args.place _ c.requires

pub returns-clause-owners : goal.returns-clause-owners
returns-clause-owners c = unwritten owner_of c.args.links.now.items c.args.place _ c.requires blank (ap owner_of c.link_at-link.ensures)

pub returns-clause-afters : goal.returns-clause-afters
returns-clause-afters c = unwritten after_of c.args.links.now.items c.args.place _ c.requires blank (ap after_of c.link_at-link.ensures)
