use Rattle.std.proofs.Common.{◌≡◌, ◌<◌, length, get_or}
use Rattle.std.proofs.lemmas.Result.{err_from_is_err_and}
use Rattle.book_traces.proofs.Booking.{book_goes_on, book_stops}
use Rattle.book_traces.proofs.book.write_book.Goals as goal

pub returns-in_err-write_entry-clause-writes : goal.returns-in_err-write_entry-clause-writes
returns-in_err-write_entry-clause-writes g c =
    let fault = err_from_is_err_and c.from_residual.result c.from_residual.ensures.1 in
    let before : c.entries.row-index < length c.args.book.now = rw c.entries-row-items.ensures at c.entries-test.true in
    let row_is : c.row-item.result ≡ get_or c.args.book.now c.entries.row-index c.row-item.result = rw c.entries-row-items.ensures at c.row-item.is in
    rw (fault.1, fault.2)
    (book_stops g.K.Sink c.args.sink.now c.entries.sink c.write_entry.new.sink c.args.book.now c.entries.row-index c.row-item.result _ before row_is c.entries.invariant.put c.in_err-write_entry.ensures.writes)

pub entries-preserved : goal.entries-preserved
entries-preserved g c =
    let before : c.entries.row-index < length c.args.book.now = rw c.entries-row-items.ensures at c.entries-test.true in
    let row_is : c.row-item.result ≡ get_or c.args.book.now c.entries.row-index c.row-item.result = rw c.entries-row-items.ensures at c.row-item.is in
    record {
      put = book_goes_on g.K.Sink c.args.sink.now c.entries.sink c.write_entry.new.sink c.args.book.now c.entries.row-index c.row-item.result before row_is c.entries.invariant.put c.in_ok-write_entry.ensures.writes;
    }
