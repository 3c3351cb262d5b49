use Rattle.std.proofs.Common.{rules, ◌≡◌, List, ◌++◌, ◌∷◌, [], refl, sym, ap, subst, ◌∙◌}
use Rattle.service_book.specs.declared.entry.BookEntry.{BookEntry}
use Rattle.service_book.specs.Book.{log_of}
use Rattle.service_book.specs.Tallies.{IsTally}
use Rattle.shared_service.proofs.Logs.{log_more}
use Rattle.shared_service.proofs.record.Record.add.Goals as goal

pub invariant_of-self : goal.invariant_of-self
invariant_of-self c =
    let old = c.args.self.now in
    let grown : c.push.new.self.items ≡ old.book.items ++ c.args.entry ∷ [] = search rules in
    record {
      counted = subst (λ (l : List BookEntry). IsTally l c.add.new.self) (sym (ap log_of grown ∙ log_more old.book.items c.args.entry))
          (c.add.ensures.tally (log_of old.book.items) c.args.entry refl old.counted);
    }
