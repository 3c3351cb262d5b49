-- A book and its log, and what a pass's own entries say.
use Rattle.std.proofs.Common.{◌≡◌, ℕ, ◌==◌, Bool, true, false, if◌then◌else◌, List, [], ◌∷◌, ◌++◌, length, reverse, Option, Some, None, refl, sym, ap, ◌∙◌, arith, ⊎_elim, append_assoc}
use Rattle.std.proofs.lemmas.Bool.{cases_Bool}
use Rattle.std.proofs.lemmas.List.{append-nil, reverse-append}
use Rattle.std.proofs.lemmas.List.Elements.{filter-append}
use Rattle.turn_lock.specs.Rule.{own}
use Rattle.tags.specs.declared.settled.Settled.{Settled}
use Rattle.rule_model.specs.declared.entry.Entry.{Entry}
use Rattle.rule_model.specs.declared.entry.Entry.TheVariants.{Acted, Settling}
use Rattle.rule_model.specs.Entries.{after_step, admits}
use Rattle.rule_model.specs.Acts.{is_connect, is_disconnect, is_leave}
use Rattle.service_book.specs.declared.entry.BookEntry.{BookEntry}
use Rattle.service_book.specs.Book.{client_given, client_of, history_of, later_client, log_of}
use Rattle.service_book.specs.Limits.{is_of}
use Rattle.shared_service.specs.Calls.{OneStep, entries_of, entry_by, settling_by}
use Rattle.shared_service.specs.Owning.{by, is_connected, later_ticket, out_of, ticket_given}
use Rattle.shared_service.proofs.Fitting.{then_is, else_is}

-- ---- a log

pub log_more : (book : List BookEntry) (e : BookEntry) → log_of (book ++ e ∷ []) ≡ e ∷ log_of book
log_more book e = reverse-append book (e ∷ [])

abbrev pub settling_of : ℕ → OneStep → Settled → BookEntry
settling_of pass s settled = entry_by pass s.before s.behind (Settling settled)

abbrev pub acted_of : ℕ → OneStep → BookEntry
acted_of pass s = entry_by pass s.before s.behind (Acted s.event s.drawn s.reply)

-- the log after a settling, where there was one, and after a step
abbrev pub settled_log : ℕ → OneStep → Option Settled → List BookEntry → List BookEntry
settled_log pass s None log = log
settled_log pass s (Some settled) log = settling_of pass s settled ∷ log

abbrev pub step_log : ℕ → OneStep → List BookEntry → List BookEntry
step_log pass s log = acted_of pass s ∷ settled_log pass s s.settled log

settling_log : (pass : ℕ) (s : OneStep) (settled : Option Settled) (book : List BookEntry) → log_of (book ++ (settling_by pass s.before s.behind settled ++ acted_of pass s ∷ [])) ≡ acted_of pass s ∷ settled_log pass s settled (log_of book)
settling_log pass s None book = log_more book (acted_of pass s)
settling_log pass s (Some settled) book =
    ap log_of (sym (append_assoc book (settling_of pass s settled ∷ []) (acted_of pass s ∷ []))) ∙ (log_more (book ++ settling_of pass s settled ∷ []) (acted_of pass s)
    ∙ ap (λ (l : List BookEntry). acted_of pass s ∷ l) (log_more book (settling_of pass s settled)))

pub log_step : (pass : ℕ) (s : OneStep) (book : List BookEntry) → log_of (book ++ entries_of pass s) ≡ step_log pass s (log_of book)
log_step pass s book = settling_log pass s s.settled book

pub history_settled : (pass : ℕ) (s : OneStep) (settled : Option Settled) (log : List BookEntry) → history_of (acted_of pass s ∷ settled_log pass s settled log) ≡ after_step settled s.event s.drawn s.reply (history_of log)
history_settled pass s None log = refl
history_settled pass s (Some settled) log = refl

pub history_step : (pass : ℕ) (s : OneStep) (log : List BookEntry) → history_of (step_log pass s log) ≡ after_step s.settled s.event s.drawn s.reply (history_of log)
history_step pass s log = history_settled pass s s.settled log

-- ---- own entries

pub reverse_own : (n : ℕ) (xs : List BookEntry) → own by n (reverse xs) ≡ reverse (own by n xs)
reverse_own n [] = refl
reverse_own n (e ∷ xs) =
    ap (own by n) (reverse-append (e ∷ []) xs) ∙ (filter-append (λ (x : BookEntry). by x == n) (reverse xs) (e ∷ []) ∙ ((λ i. reverse_own n xs i ++ own by n (e ∷ [])) ∙ one (by e == n) refl))
  where
    one : (b : Bool) → (by e == n) ≡ b → reverse (own by n xs) ++ (if b then e ∷ [] else []) ≡ reverse (if b then e ∷ own by n xs else own by n xs)
    one true q = sym (reverse-append (e ∷ []) (own by n xs))
    one false q = append-nil (reverse (own by n xs))

-- what the entries of a pass say, the newest first
abbrev pub fold : {A : Type 0} → (Entry → A → A) → A → ℕ → List BookEntry → A
fold step start n [] = start
fold step start n (e ∷ log) = if e.pass == n then step e.entry (fold step start n log) else fold step start n log

fold_own : {A : Type 0} (step : Entry → A → A) (start : A) (n : ℕ) (log : List BookEntry) → fold step start n log ≡ fold step start n (own by n log)
fold_own step start n [] = refl
fold_own {A} step start n (e ∷ log) = ⊎_elim
    (λ (q : (e.pass == n) ≡ true).
    then_is (e.pass == n) (step e.entry (fold step start n log)) (fold step start n log) q
    ∙ (ap (step e.entry) (fold_own step start n log) ∙ (sym (then_is (e.pass == n) (step e.entry (fold step start n (own by n log))) (fold step start n (own by n log)) q)
    ∙ ap (fold step start n) (sym (then_is (e.pass == n) (e ∷ own by n log) (own by n log) q)))))
    (λ (q : (e.pass == n) ≡ false).
    else_is (e.pass == n) (step e.entry (fold step start n log)) (fold step start n log) q ∙ (fold_own step start n log ∙ ap (fold step start n) (sym (else_is (e.pass == n) (e ∷ own by n log) (own by n log) q))))
    (cases_Bool (e.pass == n))

pub same_fold : {A : Type 0} (step : Entry → A → A) (start : A) (n : ℕ) (f g : List BookEntry) → own by n f ≡ own by n g → fold step start n (log_of f) ≡ fold step start n (log_of g)
same_fold step start n f g e =
    fold_own step start n (log_of f) ∙ (ap (fold step start n) (reverse_own n f ∙ (ap reverse e ∙ sym (reverse_own n g))) ∙ sym (fold_own step start n (log_of g)))

abbrev pub client_step : Entry → Option ℕ → Option ℕ
client_step entry before = later_client (client_given entry) before

abbrev pub out_step : Entry → Option ℕ → Option ℕ
out_step entry before = if is_of is_leave entry then None else later_ticket (ticket_given entry) before

abbrev pub connected_step : Entry → Bool → Bool
connected_step entry before = if admits is_connect entry then true else if admits is_disconnect entry then false else before

client_fold : (n : ℕ) (log : List BookEntry) → client_of n log ≡ fold client_step None n log
client_fold n [] = refl
client_fold n (e ∷ log) = ap (λ (o : Option ℕ). if e.pass == n then client_step e.entry o else o) (client_fold n log)

out_fold : (n : ℕ) (log : List BookEntry) → out_of n log ≡ fold out_step None n log
out_fold n [] = refl
out_fold n (e ∷ log) = ap (λ (o : Option ℕ). if e.pass == n then out_step e.entry o else o) (out_fold n log)

connected_fold : (n : ℕ) (log : List BookEntry) → is_connected n log ≡ fold connected_step false n log
connected_fold n [] = refl
connected_fold n (e ∷ log) = ap (λ (b : Bool). if e.pass == n then connected_step e.entry b else b) (connected_fold n log)

pub same_client : (n : ℕ) (f g : List BookEntry) → own by n f ≡ own by n g → client_of n (log_of f) ≡ client_of n (log_of g)
same_client n f g e = client_fold n (log_of f) ∙ (same_fold client_step None n f g e ∙ sym (client_fold n (log_of g)))

pub same_out : (n : ℕ) (f g : List BookEntry) → own by n f ≡ own by n g → out_of n (log_of f) ≡ out_of n (log_of g)
same_out n f g e = out_fold n (log_of f) ∙ (same_fold out_step None n f g e ∙ sym (out_fold n (log_of g)))

pub same_connected : (n : ℕ) (f g : List BookEntry) → own by n f ≡ own by n g → is_connected n (log_of f) ≡ is_connected n (log_of g)
same_connected n f g e = connected_fold n (log_of f) ∙ (same_fold connected_step false n f g e ∙ sym (connected_fold n (log_of g)))

pub history_length : (log : List BookEntry) → length (history_of log) ≡ length log
history_length [] = refl
history_length (e ∷ log) = let rest = history_length log in omega arith
