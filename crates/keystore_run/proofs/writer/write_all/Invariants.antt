use Rattle.std.proofs.Common.{◌≡◌, ℕ, false, List, ◌++◌, length}
use Rattle.ks_outside.specs.Shown.{Put}
use Rattle.keystore_run.proofs.writer.write_all.Given as goal

abbrev pub invariant-pieces : goal.invariant-pieces
invariant-pieces g l = record {
  written : (part : List ℕ) × Put g.K.Sink l.fn.sink l.sink part false × (l.fn.text ≡ part ++ l.rest);
}

abbrev pub decreases-pieces : goal.decreases-pieces
decreases-pieces g l = length l.rest
