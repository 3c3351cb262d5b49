use Rattle.std.proofs.Common.{◌*◌, ◌^◌, ◌≤◌, List, length, sym, subst, arith}
use Rattle.std.proofs.Math.Logic.{∥∥₁_map}
use Rattle.service_book.specs.declared.entry.BookEntry.{BookEntry}
use Rattle.service_book.specs.Book.{log_of}
use Rattle.service_book.specs.Limits.{MOST_ENTRIES, recorded}
use Rattle.shared_service.specs.Desks.{weight}
use Rattle.shared_service.specs.Records.{book_in, places_in}
use Rattle.shared_service.proofs.NewDesk.{new_desk}
use Rattle.shared_service.proofs.desk.Desk.new.Goals as goal

pub invariant_of-result : goal.invariant_of-result
invariant_of-result g c = record {
  stands = ∥∥₁_map c.requires.stands (λ first. new_desk g.D.Disk g.N.Entropy c.name_of.result c.args.engine c.args.disk c.args.entropy (book_in c.new.result) c.new.ensures first c.requires.store c.name_of.ensures);
  places = subst (λ (l : List BookEntry). weight (log_of l) ≤ places_in c.new.result) (sym c.new.ensures) (omega arith);
  few = subst (λ (l : List BookEntry). weight (log_of l) ≤ MOST_ENTRIES) (sym c.new.ensures) (omega arith);
  small = subst (λ (l : List BookEntry). recorded (log_of l) ≤ length l * 2 ^ 35) (sym c.new.ensures) (omega arith);
}
