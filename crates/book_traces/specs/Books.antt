-- What is written of a service's book.
use Rattle.std.specs.Prelude.{◌≡◌, ℕ, Bool, true, false, List, ◌++◌, Result, Ok, Err}
use Rattle.ks_outside.specs.Shown.{Put}
use Rattle.ks_outside.specs.declared.sink.Sink.{Ghosts as SinkGhosts}
use Rattle.trace_lines.specs.Traces.{trace_of}
use Rattle.service_book.specs.declared.entry.BookEntry.{BookEntry}
use Rattle.service_book.specs.Book.{history_of, log_of}
use Rattle.book_traces.specs.declared.book.BookFault.{BookFault}
use Rattle.book_traces.specs.declared.book.BookFault.TheVariants.{Memory, Write}

-- the trace of a book's history
abbrev pub book_trace : List BookEntry → List ℕ
book_trace book = trace_of (history_of (log_of book))

-- whether a write failed
abbrev pub is_write_fault : Result (Unit {0}) BookFault → Bool
is_write_fault (Ok u) = false
is_write_fault (Err Memory) = false
is_write_fault (Err Write) = true

module _ {K : Type 0} (k : SinkGhosts K) where
  -- a front of a text was written, and then a write failed, or none did
  pub record WritesFront (text : List ℕ) (old new : K) (failed : Bool) : Type 0 where
    pub part : List ℕ
    pub missing : List ℕ
    pub is : part ++ missing ≡ text
    pub put : Put k old new part failed

  -- a text was written, all of it or a front
  abbrev pub Writes : List ℕ → K → K → Result (Unit {0}) BookFault → Type 0
  Writes text old new (Ok u) = Put k old new text false
  Writes text old new (Err fault) = WritesFront text old new (is_write_fault (Err fault))
