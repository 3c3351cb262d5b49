use Rattle.std.proofs.Common.{◌∙◌, arith}
use Rattle.grants.specs.Rows.{is_of}
use Rattle.grants.proofs.Granting.{ends_one, fewer, none_left, left_by_number, left_by_key}
use Rattle.grants.proofs.table.Grants.end_key.Goals as goal

pub rows-smaller : goal.rows-smaller
rows-smaller c = fewer c.args.key c.in-Some.number c.rows.self c.ungrant.new.self (rw c.in-Some.is at c.rows.invariant.found) c.ungrant.ensures.out

pub rows-preserved : goal.rows-preserved
rows-preserved c = record {
  ending = record {
    out = ends_one c.args.key c.in-Some.number c.rows.self c.ungrant.new.self c.rows.invariant.ending.orderly (rw c.in-Some.is at c.rows.invariant.found) c.ungrant.ensures.out ∙ c.rows.invariant.ending.out;
    kept = omega (arith, c.rows.invariant.ending.kept, c.ungrant.ensures.kept);
    was = c.rows.invariant.ending.was;
    orderly = c.first_of-next-in-Some.ensures.orderly;
  };
  found = c.first_of-next-in-Some.ensures.found;
  none = c.first_of-next-in-Some.ensures.none;
}

pub returns-clause-out : goal.returns-clause-out
returns-clause-out c = none_left c.args.key c.rows.self (rw c.in_default.is at c.rows.invariant.none) ∙ c.rows.invariant.ending.out

pub returns-clause-by_number : goal.returns-clause-by_number
returns-clause-by_number c =
    left_by_number (is_of c.args.key) c.args.self.now c.rows.self c.rows.invariant.ending.was
    (none_left c.args.key c.rows.self (rw c.in_default.is at c.rows.invariant.none) ∙ c.rows.invariant.ending.out)

pub returns-clause-by_key : goal.returns-clause-by_key
returns-clause-by_key c =
    left_by_key (is_of c.args.key) c.args.self.now c.rows.self c.rows.invariant.ending.was
    (none_left c.args.key c.rows.self (rw c.in_default.is at c.rows.invariant.none) ∙ c.rows.invariant.ending.out)
