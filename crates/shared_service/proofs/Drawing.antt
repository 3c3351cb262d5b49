-- What a book drew, while it grows.
use Rattle.std.proofs.Common.{◌≡◌, ℕ, List, [], ◌++◌, Option, Some, None, refl, sym, ap, ◌∙◌, subst}
use Rattle.std.proofs.lemmas.List.{append-nil}
use Rattle.ks_outside.specs.Draws.{Draws}
use Rattle.ks_outside.specs.declared.entropy.Entropy.{Ghosts as EntropyGhosts}
use Rattle.ks_outside.proofs.DrawLaws.{Draws-nil, Draws-trans}
use Rattle.tags.specs.declared.settled.Settled.{Settled}
use Rattle.rule_model.specs.Drawn.{drawn_of}
use Rattle.rule_model.specs.Entries.{History, after_settling}
use Rattle.service_book.specs.declared.entry.BookEntry.{BookEntry}
use Rattle.service_book.specs.Book.{history_of, log_of}
use Rattle.shared_service.specs.Calls.{OneStep, entries_of}
use Rattle.shared_service.specs.Drawn.{DrewAll, DrewFirst, drawn_in}
use Rattle.shared_service.proofs.Logs.{history_step, log_step}

-- a settling draws nothing
settled_none : (settled : Option Settled) (past : History) → drawn_of (after_settling settled past) ≡ drawn_of past
settled_none None past = refl
settled_none (Some settled) past = append-nil (drawn_of past)

drawn_step : (pass : ℕ) (s : OneStep) (book : List BookEntry) → drawn_in (book ++ entries_of pass s) ≡ drawn_in book ++ s.drawn
drawn_step pass s book =
    ap drawn_of (ap history_of (log_step pass s book) ∙ history_step pass s (log_of book)) ∙ ap (λ (bytes : List ℕ). bytes ++ s.drawn) (settled_none s.settled (history_of (log_of book)))

module _ {N : Type 0} (n : EntropyGhosts N) where
  pub drew_none : (begin : N) → DrewAll n begin begin []
  drew_none begin = Draws-nil (n.content begin)

  pub drew_none_first : (begin : N) → DrewFirst n begin []
  drew_none_first begin = (n.content begin, Draws-nil (n.content begin))

  -- one step more
  pub drew_step : (begin before behind : N) (pass : ℕ) (s : OneStep) (book : List BookEntry) → DrewAll n begin before book → Draws (n.content before) (n.content behind) s.drawn → DrewAll n begin behind (book ++ entries_of pass s)
  drew_step begin before behind pass s book drew more =
      subst (Draws (n.content begin) (n.content behind)) (sym (drawn_step pass s book)) (Draws-trans (n.content begin) (n.content before) (n.content behind) (drawn_in book) s.drawn drew more)

  pub drew_at : (begin start before now : N) (book all : List BookEntry) → begin ≡ start → before ≡ now → book ≡ all → DrewAll n begin before book → DrewAll n start now all
  drew_at begin start before now book all p q r drew = subst (λ (z : N × N × List BookEntry). DrewAll n z.0 z.1 z.2) (λ i. (p i, q i, r i)) drew
