use Rattle.script_lines.proofs.event.reading_of.Goals as goal

pub returns : goal.returns
returns c = rw (← c.in-Some.ensures, ← c.in-Some-two_of.ensures, c.in_ok-boot.ensures, c.in_ok-wall.ensures)
