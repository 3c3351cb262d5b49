use Rattle.std.proofs.Common.{drop}
use Rattle.device_files.proofs.RowLemmas.{GoesOn}
use Rattle.device_files.proofs.policy.rows_in.Given as goal

abbrev pub invariant-rows : goal.invariant-rows
invariant-rows l = GoesOn l.out.items (drop l.row-index l.rows) l.rows
