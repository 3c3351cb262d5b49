-- A book while it grows.
use Rattle.std.specs.Prelude.{ℕ, List, vec_capacity}
use Rattle.service_book.specs.declared.entry.BookEntry.{BookEntry}
use Rattle.shared_service.specs.declared.record.Record.{Record}

-- its entries, and for how many it has places
abbrev pub book_in : Record → List BookEntry
book_in r = r.book.items

abbrev pub places_in : Record → ℕ
places_in r = vec_capacity r.book
