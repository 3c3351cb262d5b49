use Rattle.std.proofs.Common.{ap}
use Rattle.lasting_table.specs.Parts.{part_of}
use Rattle.lasting_table.proofs.Storing.{grant_next, held_grant_parts}
use Rattle.lasting_table.proofs.part.Part.hold_grant.Goals as goal

pub grant-requires-clause-next : goal.grant-requires-clause-next
grant-requires-clause-next c = λ new.
    let held = held_grant_parts (part_of c.args.self.now) c.args.row c.requires.may in
    grant_next c.args.self.now.grants.rows c.args.row.grant held.below

pub invariant_of-self : goal.invariant_of-self
invariant_of-self c =
    let held = held_grant_parts (part_of c.args.self.now) c.args.row c.requires.may in
    record {
      keys_below = c.args.self.now.keys_below;
      grants_below = c.grant.ensures.below c.args.self.now.next_grant c.args.self.now.grants_below (λ new. held.given.1);
      long = c.args.self.now.long;
    }

pub returns : goal.returns
returns c =
    let held = held_grant_parts (part_of c.args.self.now) c.args.row c.requires.may in
    ap (λ rows. record (part_of c.args.self.now) { grants = rows }) (c.grant.ensures.added held.free)
