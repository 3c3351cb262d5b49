use Rattle.std.proofs.Common.{◌≡◌, ℕ, ◌+◌, ◌-◌, List}
use Rattle.std.specs.Prelude.{sum}
use Rattle.file_disk.specs.Rewriting.{Pieces}
use Rattle.file_disk.proofs.rewriting.write_again.Given as goal

abbrev pub invariant-pieces : goal.invariant-pieces
invariant-pieces g l = (counts : List ℕ) × Pieces g.F.RealFile l.fn.from counts l.fn.file l.file × (l.at ≡ l.fn.from + sum counts)

abbrev pub decreases-pieces : goal.decreases-pieces
decreases-pieces g l = l.end - l.at
