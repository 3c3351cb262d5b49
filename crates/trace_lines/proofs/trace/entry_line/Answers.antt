use Rattle.trace_lines.proofs.FreeTexts.{entry_is_line}
use Rattle.trace_lines.proofs.trace.entry_line.Goals as goal

pub returns-clause-one_line : goal.returns-clause-one_line
returns-clause-one_line c = entry_is_line c.args.entry.now
