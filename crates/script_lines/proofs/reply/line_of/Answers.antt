use Rattle.script_lines.proofs.reply.line_of.Goals as goal

pub returns : goal.returns
returns c = rw (c.of.ensures, c.in_ok-extend_from_slice.ensures.items, c.as_slice.ensures.value, c.in_ok-reply.ensures, c.in_ok-line.ensures)
