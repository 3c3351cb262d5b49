use Rattle.std.proofs.Common.{false, take}
use Rattle.ks_outside.specs.Shown.{Put}
use Rattle.book_traces.specs.Books.{book_trace}
use Rattle.book_traces.proofs.book.write_book.Given as goal

abbrev pub invariant-entries : goal.invariant-entries
invariant-entries g l = record {
  put : Put g.K.Sink l.fn.sink l.sink (book_trace (take l.row-index l.fn.book)) false;
}
