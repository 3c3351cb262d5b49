use Rattle.trace_lines.proofs.ReplyBack.{entry_of_back}
use Rattle.trace_lines.proofs.trace.entry_text.Goals as goal

pub returns-clause-reads_back : goal.returns-clause-reads_back
returns-clause-reads_back c = λ whole.
    entry_of_back c.in_ok-text.text.items c.args.entry.now c.in_ok-text.ensures.utf8 (rw c.in_ok-object.ensures at c.in_ok-text.ensures.text) (rw c.in_ok-object.ensures at c.in_ok-text.ensures.reads_back) whole
