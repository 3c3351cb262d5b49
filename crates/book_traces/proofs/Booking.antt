-- The lines of a book, one after another.
use Rattle.std.proofs.Common.{◌≡◌, ℕ, ◌+◌, ◌<◌, false, List, [], ◌∷◌, ◌++◌, length, take, get_or, Err, sym, ap, ◌∙◌, subst, append_assoc, append-nil}
use Rattle.std.proofs.lemmas.List.{reverse-append, take_more, take-append-drop}
use Rattle.ks_outside.specs.Shown.{Put}
use Rattle.ks_outside.specs.declared.sink.Sink.{Ghosts as SinkGhosts}
use Rattle.ks_outside.proofs.Shown.{put_none, put_on}
use Rattle.trace_lines.specs.Traces.{entry_line, trace_of}
use Rattle.service_book.specs.declared.entry.BookEntry.{BookEntry}
use Rattle.service_book.specs.Book.{history_of}
use Rattle.book_traces.specs.declared.book.BookFault.{BookFault}
use Rattle.book_traces.specs.Books.{WritesFront, book_trace, is_write_fault}

-- one entry more
trace_more : (book : List BookEntry) (row : BookEntry) → book_trace (book ++ row ∷ []) ≡ book_trace book ++ entry_line row.entry
trace_more book row = ap (λ (log : List BookEntry). trace_of (history_of log)) (reverse-append book (row ∷ []))

-- what is written of a front of a book is a front of its trace
trace_front : (front back : List BookEntry) → (rest : List ℕ) × (book_trace (front ++ back) ≡ book_trace front ++ rest)
trace_front front [] = ([], ap book_trace (append-nil front) ∙ sym (append-nil (book_trace front)))
trace_front front (row ∷ back) =
    let later = trace_front (front ++ row ∷ []) back in
    (entry_line row.entry ++ later.0, ap book_trace (sym (append_assoc front (row ∷ []) back)) ∙ later.1 ∙ ap (λ t. t ++ later.0) (trace_more front row) ∙ append_assoc (book_trace front) (entry_line row.entry) later.0)

module _ {K : Type 0} (k : SinkGhosts K) where
  -- nothing is written yet
  pub book_begins : (sink : K) → Put k sink sink (book_trace []) false
  book_begins sink = put_none k sink

  -- the line of one entry more
  pub book_goes_on : (old sink sink' : K) (book : List BookEntry) (i : ℕ) (row : BookEntry) → i < length book → row ≡ get_or book i row → Put k old sink (book_trace (take i book)) false → Put k sink sink' (entry_line row.entry) false
      → Put k old sink' (book_trace (take (i + 1) book)) false
  book_goes_on old sink sink' book i row lt is so_far put =
      let grown : take (i + 1) book ≡ take i book ++ row ∷ [] = take_more book i row lt ∙ ap (λ (r : BookEntry). take i book ++ r ∷ []) (sym is) in
      subst (λ (bytes : List ℕ). Put k old sink' bytes false) (sym (ap book_trace grown ∙ trace_more (take i book) row)) (put_on k old sink sink' (book_trace (take i book)) (entry_line row.entry) false false so_far put)

  -- a front of the line of one entry more
  pub book_stops : (old sink sink' : K) (book : List BookEntry) (i : ℕ) (row : BookEntry) (fault : BookFault) → i < length book → row ≡ get_or book i row → Put k old sink (book_trace (take i book)) false
      → WritesFront k (entry_line row.entry) sink sink' (is_write_fault (Err fault)) → WritesFront k (book_trace book) old sink' (is_write_fault (Err fault))
  book_stops old sink sink' book i row fault lt is so_far front =
      let grown : take (i + 1) book ≡ take i book ++ row ∷ [] = take_more book i row lt ∙ ap (λ (r : BookEntry). take i book ++ r ∷ []) (sym is) in
      let rest = trace_front (take (i + 1) book) _ in
      let whole : book_trace book ≡ book_trace (take (i + 1) book) ++ rest.0 = ap book_trace (sym (take-append-drop (i + 1) book)) ∙ rest.1 in
      let so : book_trace (take (i + 1) book) ≡ book_trace (take i book) ++ (front.part ++ front.missing) = ap book_trace grown ∙ trace_more (take i book) row ∙ ap (λ t. book_trace (take i book) ++ t) (sym front.is) in
      record {
        part = book_trace (take i book) ++ front.part;
        missing = front.missing ++ rest.0;
        is = append_assoc (book_trace (take i book)) front.part (front.missing ++ rest.0) ∙ ap (λ t. book_trace (take i book) ++ t) (sym (append_assoc front.part front.missing rest.0))
            ∙ sym (append_assoc (book_trace (take i book)) (front.part ++ front.missing) rest.0) ∙ ap (λ t. t ++ rest.0) (sym so) ∙ sym whole;
        put = put_on k old sink sink' (book_trace (take i book)) front.part false (is_write_fault (Err fault)) so_far front.put;
      }
