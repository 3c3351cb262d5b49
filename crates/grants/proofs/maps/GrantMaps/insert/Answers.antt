use Rattle.grants.proofs.Indexed.{pushed, pushed_rows, undone}
use Rattle.grants.proofs.maps.GrantMaps.insert.Goals as goal

pub invariant_of-self-in-Ok : goal.invariant_of-self-in-Ok
invariant_of-self-in-Ok c = pushed c.self.inside _ _ c.args.row.now c.self.invariant (rw c.self.view_is c.requires) c.in-Ok.ensures.ok c.in_ok-insert.ensures.updates

pub invariant_of-self-in_default : goal.invariant_of-self-in_default
invariant_of-self-in_default c = undone c.self.inside c.put.new.rows c.insert.new.self c.remove.new.self c.args.row.now c.self.invariant (rw c.self.view_is c.requires) c.in_default.ensures.err c.in_ok-insert.ensures.updates c.remove.ensures.updates

pub returns-clause-ok : goal.returns-clause-ok
returns-clause-ok c = rw (← c.self.view_is) (pushed_rows c.self.inside c.put.new.rows c.args.row.now c.self.invariant (rw c.self.view_is c.requires) c.in-Ok.ensures.ok)
