use Rattle.std.proofs.Common.{arith}
use Rattle.lasting_table.specs.Parts.{part_of}
use Rattle.lasting_table.proofs.Lengths.{bytes_push}
use Rattle.lasting_table.proofs.Storing.{held_below, held_rows}
use Rattle.lasting_table.proofs.part.Part.hold.Goals as goal

pub row_length-requires : goal.row_length-requires
row_length-requires c = omega (arith, c.requires.few, bytes_push c.args.self.now.keys.rows c.args.key)

pub overflow_add-self : goal.overflow_add-self
overflow_add-self c = record { fits = omega (arith, c.requires.few, bytes_push c.args.self.now.keys.rows c.args.key, c.args.self.now.long, c.row_length.ensures) }

pub push-requires-clause-rows : goal.push-requires-clause-rows
push-requires-clause-rows c = held_rows (part_of c.args.self.now) c.args.key c.len.ensures.orderly c.requires.may

pub invariant_of-self : goal.invariant_of-self
invariant_of-self c = record {
  keys_below = rw (c.push.ensures.rows) (held_below (part_of c.args.self.now) c.args.key c.args.self.now.keys_below c.requires.may);
  grants_below = c.args.self.now.grants_below;
  long = rw (c.push.ensures.rows) (omega (arith, bytes_push c.args.self.now.keys.rows c.args.key, c.args.self.now.long, c.row_length.ensures));
}
