use Rattle.grants.proofs.Granting.{newest_found}
use Rattle.grants.proofs.table.Grants.first_of.Goals as goal

pub returns-in-Some-newest-clause-found : goal.returns-in-Some-newest-clause-found
returns-in-Some-newest-clause-found c =
    rw (← c.self.view_is, c.in-Some-newest.is, newest_found c.self.inside.maps c.in-Some-newest.newest (rw c.in-Some-newest.is at c.self.invariant)) c.if-newest-key.true
