use Rattle.std.proofs.Common.{◌≡◌, ◌++◌, flat_map, string_bytes, length}
use Rattle.soak_lines.specs.Summary.{row_text}
use Rattle.soak_lines.proofs.summary.rows_text.Given as goal

abbrev pub invariant-rows : goal.invariant-rows
invariant-rows l = string_bytes l.out ++ flat_map row_text l.counts.entries ≡ flat_map row_text l.fn.counts.entries

abbrev pub decreases-rows : goal.decreases-rows
decreases-rows l = length l.counts.entries
