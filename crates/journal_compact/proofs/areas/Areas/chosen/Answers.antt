-- The other area is as the compaction left it.
use Rattle.std.proofs.Common.{sym, ap, ◌∙◌, rules}
use Rattle.std.proofs.lemmas.Option.{none-some}
use Rattle.journal_compact.specs.Stores.{limit_of, start_of}
use Rattle.journal_compact.specs.Waiting.{next_of}
use Rattle.journal_compact.proofs.Kept.{no_next, other_of}
use Rattle.journal_compact.proofs.areas.Areas.chosen.Goals as goal

pub invariant_of-result-2 : goal.invariant_of-result-2
invariant_of-result-2 c =
    let there = ap next_of c.requires in
    let found = other_of c.at-selected.result c.args.self.now.selected (search rules) in
    let idle = c.args.self.now.next_idle c.args.next there in
    record {
      starts = c.args.self.now.next_starts c.args.next there ∙ sym (ap start_of found);
      ends = c.args.self.now.next_ends c.args.next there ∙ sym (ap limit_of found);
      begins = c.args.self.now.next_begins c.args.next there;
      goes_on = λ x e. absurd (no_next _ x idle e);
      one = λ e. idle;
      next_starts = λ x e. absurd (none-some x e);
      next_ends = λ x e. absurd (none-some x e);
      next_begins = λ x e. absurd (none-some x e);
      next_idle = λ x e. absurd (none-some x e);
    }
