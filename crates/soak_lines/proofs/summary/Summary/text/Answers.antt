use Rattle.std.proofs.Common.{rules}
use Rattle.soak_lines.proofs.summary.Summary.text.Goals as goal

pub returns : goal.returns
returns c replied text summed = rw (← summed.rows, ← c.finalize.ensures text summed.digest) (search rules)
