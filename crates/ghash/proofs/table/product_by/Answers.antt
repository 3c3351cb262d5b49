use Rattle.std.proofs.Common.{◌≡◌, ℕ, ◌*◌, ◌/◌, ◌%◌, ◌^◌, arith, ap, ◌∙◌, slice_index_or}
use Rattle.ghash.specs.Field.{product}
use Rattle.ghash.proofs.TableLemmas.{part_none, part_more, part_all, rest_more}
use Rattle.ghash.proofs.table.product_by.Goals as goal

pub halves-init : goal.halves-init
halves-init c = record { rest = omega arith; sum = λ y table. part_none c.args.x y }

pub halves-preserved : goal.halves-preserved
halves-preserved c = record {
  rest = ap (λ (t : ℕ). t / 16) c.halves.invariant.rest ∙ rest_more c.args.x c.halves._i;
  sum = λ y table.
      let entry : slice_index_or c.args.table.now (c.halves.rest % 16) 0 ≡ product (c.halves.rest % 16 * 2 ^ 124) y = table.entries (c.halves.rest % 16) (omega arith) in
      rw (c.times_x4.ensures, entry, c.halves.invariant.rest)
      (part_more c.args.x c.halves._i y c.halves.sum (omega arith) table.small (c.halves.invariant.sum y table));
}

pub returns : goal.returns
returns c = λ y table. part_all c.args.x c.halves._i y c.halves.sum (omega arith) (omega arith) (c.halves.invariant.sum y table)
