use Rattle.script_lines.proofs.ReadBack.{event_of_back}
use Rattle.script_lines.proofs.written_event.event_line.Goals as goal

pub returns-clause-reads_back : goal.returns-clause-reads_back
returns-clause-reads_back c = λ whole.
    rw c.of.ensures (event_of_back c.in_ok-text.text.items c.args.event.now c.in_ok-text.ensures.utf8 (rw c.in_ok-object.ensures at c.in_ok-text.ensures.reads_back) whole)
