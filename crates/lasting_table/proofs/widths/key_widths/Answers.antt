use Rattle.std.proofs.Common.{arith}
use Rattle.lasting_table.proofs.Storing.{held_parts}
use Rattle.lasting_table.proofs.widths.key_widths.Goals as goal

pub returns : goal.returns
returns c = λ part may.
    let held = held_parts part c.args.key.now may in (
      c.is_wide.ensures,
      c.is_byte.ensures,
      c.is_wide-2.ensures,
      omega (arith, held.alias),
      omega (arith, held.blob),
      omega (arith, held.list),
      c.is_narrow.ensures,
      c.is_narrow-2.ensures,
    )
