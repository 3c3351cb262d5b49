-- What a book drew: the bytes of its entries, in their order, against those that the entropy has to give.
use Rattle.std.specs.Prelude.{ℕ, List, Option}
use Rattle.ks_outside.specs.Draws.{Draws}
use Rattle.ks_outside.specs.declared.entropy.Entropy.{Ghosts as EntropyGhosts}
use Rattle.rule_model.specs.Drawn as model
use Rattle.service_book.specs.declared.entry.BookEntry.{BookEntry}
use Rattle.service_book.specs.Book.{history_of, log_of}

-- the bytes that were drawn for the entries
abbrev pub drawn_in : List BookEntry → List ℕ
drawn_in book = model.drawn_of (history_of (log_of book))

module _ {N : Type 0} (n : EntropyGhosts N) where
  -- they are all that the entropy gave since it was handed in
  abbrev pub DrewAll : N → N → List BookEntry → Type 0
  DrewAll begin now book = Draws (n.content begin) (n.content now) (drawn_in book)

  -- those of a front of a book are the first that it gave
  abbrev pub DrewFirst : N → List BookEntry → Type 0
  DrewFirst begin front = (left : Option (ℕ → ℕ)) × Draws (n.content begin) left (drawn_in front)
