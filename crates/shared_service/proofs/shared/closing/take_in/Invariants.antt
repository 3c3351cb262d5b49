use Rattle.std.proofs.Common.{◌≡◌, ℕ, List, length}
use Rattle.turn_lock.specs.Passes.{IsClosingOf, made_before}
use Rattle.service_book.specs.declared.entry.BookEntry.{BookEntry}
use Rattle.shared_service.specs.declared.pass.Pass.{Pass}
use Rattle.shared_service.specs.Closings.{TookFront}
use Rattle.shared_service.specs.Passes.{front_of, number_of}
use Rattle.shared_service.proofs.TakenIn.{IsTaking}
use Rattle.shared_service.proofs.shared.closing.take_in.Given as goal

abbrev pub decreases-loop-next : goal.decreases-loop-next
decreases-loop-next g l = length l.passes.items

abbrev pub invariant-loop-next : goal.invariant-loop-next
invariant-loop-next g l = record {
  closing : IsClosingOf l.lock l.closing;
  made : made_before l.closing ≡ made_before l.fn.closing;
  kept : (number : ℕ) (front : List BookEntry) → TookFront l.fn.closing number front → TookFront l.closing number front;
  taking : IsTaking (λ (p : Pass g.row.N.Denot g.N.Entropy). TookFront l.closing (number_of p) (front_of p)) l.fn.passes.items l.passes.items;
}
