use Rattle.std.proofs.Common.{◌++◌, sym, ◌∙◌, ap}
use Rattle.std.specs.Option.{option_copied}
use Rattle.grants.specs.Newest.{listed, places}
use Rattle.grants.proofs.Granting.{holder_found, held_in_whole, newest_found}
use Rattle.grants.proofs.table.Grants.of_key.Goals as goal

pub returns-in-Some-clause-holder : goal.returns-in-Some-clause-holder
returns-in-Some-clause-holder c =
    rw (← c.self.view_is) (holder_found c.args.key c.args.uid (record { rows = c.self.inside.maps ++ listed c.self.inside.newest; spare = places c.self.inside.newest }) c.in-Some.row.now c.self.invariant
    (held_in_whole c.args.key c.args.uid c.self.inside.maps c.self.inside.newest c.in-Some.row.now (sym c.of_key.ensures ∙ ap option_copied c.in-Some.is)))

pub returns-in-Some-newest-clause-holder : goal.returns-in-Some-newest-clause-holder
returns-in-Some-newest-clause-holder c =
    rw (← c.self.view_is, c.in-Some-newest.is) (record {
      of_key = c.if-newest-key.true;
      to_uid = c.if-newest-uid.true;
      same = newest_found c.self.inside.maps c.in-Some-newest.newest (rw c.in-Some-newest.is at c.self.invariant);
    })
