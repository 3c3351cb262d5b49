use Rattle.script_lines.proofs.event.hold_of.Goals as goal

pub returns-then-row : goal.returns-then-row
returns-then-row c = rw (← c.row.ensures.row, c.if-row.true) c.flag_or_false.ensures
