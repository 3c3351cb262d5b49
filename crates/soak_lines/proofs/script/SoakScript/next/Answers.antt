use Rattle.std.proofs.Common.{sym, ◌∙◌}
use Rattle.soak_lines.proofs.LineLemmas.{opens_next}
use Rattle.soak_lines.proofs.script.SoakScript.next.Goals as goal

pub returns-then-self-lt7 : goal.returns-then-self-lt7
returns-then-self-lt7 c = record {
  next = sym c.self.view_is ∙ opens_next c.self.inside.opened c.self.inside.rest _ c.if-self-lt7.true (c.in_ok-text.ensures ∙ c.opening_line.ensures);
}
