use Rattle.std.proofs.Common.{arith}
use Rattle.lasting_table.proofs.Ends.{below_upgraded}
use Rattle.lasting_table.proofs.Lengths.{bytes_upgraded, parts_found}
use Rattle.lasting_table.proofs.part.Part.upgrade.Goals as goal

pub overflow_sub-self : goal.overflow_sub-self
overflow_sub-self c = omega (arith, c.parts_bytes-before.ensures.bytes, parts_found c.args.id c.args.self.now.keys.rows, c.args.self.now.long)

pub overflow_add-self : goal.overflow_add-self
overflow_add-self c = record {
  fits = omega (
    arith,
    c.requires.few,
    bytes_upgraded c.args.id c.args.blob c.args.list c.args.self.now.keys.rows c.parts_bytes-before.ensures.orderly c.requires.live,
    parts_found c.args.id c.args.self.now.keys.rows,
    c.parts_bytes-before.ensures.bytes,
    c.args.self.now.long,
    c.len.ensures,
    c.len-2.ensures,
  );
}

pub invariant_of-self : goal.invariant_of-self
invariant_of-self c = record {
  keys_below = rw (c.upgrade.ensures.rows) (below_upgraded c.args.id c.args.blob c.args.list c.args.self.now.next_key c.args.self.now.keys.rows c.args.self.now.keys_below);
  grants_below = c.args.self.now.grants_below;
  long = rw (c.upgrade.ensures.rows) (omega (
    arith,
    bytes_upgraded c.args.id c.args.blob c.args.list c.args.self.now.keys.rows c.parts_bytes-before.ensures.orderly c.requires.live,
    parts_found c.args.id c.args.self.now.keys.rows,
    c.parts_bytes-before.ensures.bytes,
    c.args.self.now.long,
    c.len.ensures,
    c.len-2.ensures,
  ));
}
