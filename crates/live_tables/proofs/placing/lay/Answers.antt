use Rattle.live_tables.proofs.Places.{lays}
use Rattle.live_tables.proofs.placing.lay.Goals as goal

pub returns-in-Some-clause-lays : goal.returns-in-Some-clause-lays
returns-in-Some-clause-lays c =
    lays c.args.places.now.items c.args.free.now.items c.args.row c.requires.spare c.requires.differ c.pop.new.self.items c.in-Some.place c.in-Some.ensures.items
