use Rattle.soak_lines.proofs.script.SoakScript.new.Goals as goal

pub returns : goal.returns
returns c = rw (c.from_seed.ensures, c.seed_of.ensures)
