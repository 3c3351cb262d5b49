use Rattle.std.proofs.Common.{sym, ◌∙◌, arith, rules}
use Rattle.soak_lines.proofs.LineLemmas.{next_is}
use Rattle.soak_lines.proofs.script.Generated.next.Goals as goal

pub returns : goal.returns
returns c = record {
  next = sym c.self.view_is ∙ next_is c.self.inside.left c.self.inside.number c.self.inside.begins c.from.result c.self.inside.generator
      c.words_of-words.new.generator c.words_of-words.result c.call-call.result _ (omega (arith, c.if-self-eq0.false))
      c.words_of-words.ensures.words c.words_of-words.ensures.after c.call-call.ensures.call (search rules) c.in_ok-text.ensures.text;
}
