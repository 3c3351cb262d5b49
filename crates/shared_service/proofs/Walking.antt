-- A ticket that is out with a pass stays as it is, whatever other passes do.
use Rattle.std.proofs.Common.{◌≡◌, ℕ, ◌+◌, ◌≤◌, ◌==◌, ◌&&◌, true, false, if◌then◌else◌, List, [], ◌∷◌, ◌++◌, length, reverse, Option, Some, None, is_some, Result, IfOk, refl, sym, ap, ◌∙◌, subst, arith, ⊎_elim, length-append}
use Rattle.std.proofs.lemmas.Bool.{cases_Bool}
use Rattle.std.proofs.lemmas.List.{reverse-append}
use Rattle.std.proofs.lemmas.List.Elements.{filter-append}
use mathlib.Core.List.{IsPrefix}
use Rattle.tags.specs.declared.code.Code.{Code}
use Rattle.turn_lock.specs.Rule.{own}
use Rattle.cipher_ops.specs.declared.job.Done.{Done as JobDone}
use Rattle.cipher_ops.specs.declared.room.Work.{Work}
use Rattle.cipher_ops.specs.declared.room.Work.TheVariants.{Aad, Text, Last}
use Rattle.rule_model.specs.declared.entry.Entry.{Entry}
use Rattle.rule_model.specs.declared.entry.Entry.TheVariants.{Acted, Settling}
use Rattle.rule_model.specs.declared.event.Act.{Act}
use Rattle.rule_model.specs.declared.event.Act.TheVariants.{EnterAad, EnterUpdate, EnterFinish, Leave, Restart}
use Rattle.rule_model.specs.declared.event.Event.{Event}
use Rattle.rule_model.specs.declared.reply.Fields.{Fields}
use Rattle.rule_model.specs.declared.reply.Reply.{Reply}
use Rattle.rule_model.specs.declared.reply.Reply.TheVariants.{Done, Broken, Stopped}
use Rattle.rule_model.specs.Entries.{History, gives}
use Rattle.rule_model.specs.Jobs.{IsDoneOn, IsDoneOut, but_shown}
use Rattle.rule_model.specs.Kept.{operation_at}
use Rattle.rule_model.specs.declared.operation.Open.{Open}
use Rattle.rule_model.specs.Operations.{output_of}
use Rattle.rule_model.specs.Setup.{Setup}
use Rattle.rule_model.specs.declared.operation.Entered.{Entered}
use Rattle.rule_model.specs.Tickets.{admitted_ticket, goes_out, stopped_ticket, ticket_after, ticket_at, ticket_change}
use Rattle.keystore_core.specs.Outputs.{PutsOut, output_out}
use Rattle.service_book.specs.declared.entry.BookEntry.{BookEntry}
use Rattle.service_book.specs.Book.{gives_ticket, history_of, log_of, pass_of_ticket}
use Rattle.shared_service.specs.Facts.{AllFacts, Facts}
use Rattle.shared_service.specs.Owning.{by, out_of}
use Rattle.shared_service.proofs.Fitting.{else_is, then_is}
use Rattle.shared_service.proofs.Logs.{reverse_own}

differ : false ≡ true → ⊥
differ e = cc

-- ---- one entry

-- a ticket that was out and is out still, and that the entry does not give, has the same work
back_entered : (number ticket : ℕ) (entered : Entered) → is_some (if number == ticket then None else Some entered) ≡ true → (if number == ticket then None else Some entered) ≡ Some entered
back_entered number ticket entered out = ⊎_elim
    (λ (e : (number == ticket) ≡ true). absurd (differ (sym (ap is_some (then_is (number == ticket) None (Some entered) e)) ∙ out)))
    (λ (e : (number == ticket) ≡ false). else_is (number == ticket) None (Some entered) e)
    (cases_Bool (number == ticket))

given_entered : (given : Option ℕ) (op ticket : ℕ) (work : Work) (entered : Entered) → gives given ticket ≡ false → ticket_after (goes_out given op work) ticket (Some entered) ≡ Some entered
given_entered None op ticket work entered free = refl
given_entered (Some number) op ticket work entered free = else_is (number == ticket) (Some (record { op = op; work = work })) (Some entered) free

admitted_entered : (act : Act) (fields : Fields) (ticket : ℕ) (entered : Entered) → (Rattle.rule_model.specs.Acts.is_enter act && gives fields.ticket ticket) ≡ false → is_some (ticket_after (admitted_ticket act fields) ticket (Some entered)) ≡ true
    → ticket_after (admitted_ticket act fields) ticket (Some entered) ≡ Some entered
admitted_entered (EnterAad op input) fields ticket entered free out = given_entered fields.ticket op ticket (Aad input) entered free
admitted_entered (EnterUpdate op input) fields ticket entered free out = given_entered fields.ticket op ticket (Text input) entered free
admitted_entered (EnterFinish op input signature) fields ticket entered free out = given_entered fields.ticket op ticket (Last input signature) entered free
admitted_entered (Leave number) fields ticket entered free out = back_entered number ticket entered out
admitted_entered (Restart root) fields ticket entered free out = cc
admitted_entered _ fields ticket entered free out = refl

stopped_entered : (act : Act) (ticket : ℕ) (entered : Entered) → is_some (ticket_after (stopped_ticket act) ticket (Some entered)) ≡ true → ticket_after (stopped_ticket act) ticket (Some entered) ≡ Some entered
stopped_entered (Leave number) ticket entered out = back_entered number ticket entered out
stopped_entered _ ticket entered out = refl

event_entered : (event : Event) (drawn : List ℕ) (reply : Reply) (ticket : ℕ) (entered : Entered) → gives_ticket ticket (Acted event drawn reply) ≡ false → is_some (ticket_after (ticket_change event reply) ticket (Some entered)) ≡ true
    → ticket_after (ticket_change event reply) ticket (Some entered) ≡ Some entered
event_entered event drawn (Done fields) ticket entered free out = admitted_entered event.act fields ticket entered free out
event_entered event drawn (Broken rule code) ticket entered free out = refl
event_entered event drawn (Stopped code) ticket entered free out = stopped_entered event.act ticket entered out

entry_entered : (entry : Entry) (past : History) (ticket : ℕ) (entered : Entered) → gives_ticket ticket entry ≡ false → ticket_at past ticket ≡ Some entered → is_some (ticket_at (entry ∷ past) ticket) ≡ true → ticket_at (entry ∷ past) ticket ≡ Some entered
entry_entered (Settling settled) past ticket entered free before out = before
entry_entered (Acted event drawn reply) past ticket entered free before out =
    let same : ticket_at (Acted event drawn reply ∷ past) ticket ≡ ticket_after (ticket_change event reply) ticket (Some entered) = ap (λ (o : Option Entered). ticket_after (ticket_change event reply) ticket o) before in
    same ∙ event_entered event drawn reply ticket entered free (sym (ap is_some same) ∙ out)

-- ---- a log

newest : (setup : Setup) (log : List BookEntry) → AllFacts setup log → Facts setup log
newest setup [] all = all
newest setup (e ∷ log) all = all.0

own_first : (e : BookEntry) (n : ℕ) (log : List BookEntry) → own by n (e ∷ log) ≡ [] → (e.pass == n) ≡ false
own_first e n log none = ⊎_elim (λ (q : (e.pass == n) ≡ true). absurd (some (sym (then_is (e.pass == n) (e ∷ own by n log) (own by n log) q) ∙ none))) (λ (q : (e.pass == n) ≡ false). q) (cases_Bool (e.pass == n))
  where
    some : (e ∷ own by n log) ≡ [] → ⊥
    some q = cc

own_rest : (e : BookEntry) (n : ℕ) (log : List BookEntry) → own by n (e ∷ log) ≡ [] → own by n log ≡ []
own_rest e n log none = sym (else_is (e.pass == n) (e ∷ own by n log) (own by n log) (own_first e n log none)) ∙ none

-- the work of a ticket, and its operation but for a token that was shown to it, from an earlier moment to a later
pub record Waited (setup : Setup) (past later : History) (ticket : ℕ) (entered : Entered) : Type 0 where
  pub out : ticket_at later ticket ≡ Some entered
  pub same : but_shown (operation_at setup later entered.op) ≡ but_shown (operation_at setup past entered.op)

out_later : (n ticket : ℕ) (later log : List BookEntry) → own by n later ≡ [] → out_of n log ≡ Some ticket → out_of n (later ++ log) ≡ Some ticket
out_later n ticket [] log none out = out
out_later n ticket (e ∷ later) log none out = else_is (e.pass == n) _ (out_of n (later ++ log)) (own_first e n later none) ∙ out_later n ticket later log (own_rest e n later none) out

pub waited : (setup : Setup) (n ticket : ℕ) (later log : List BookEntry) (entered : Entered) → AllFacts setup (later ++ log) → own by n later ≡ [] → out_of n log ≡ Some ticket → ticket_at (history_of log) ticket ≡ Some entered
    → Waited setup (history_of log) (history_of (later ++ log)) ticket entered
waited setup n ticket [] log entered facts none out at = record { out = at; same = refl }
waited setup n ticket (e ∷ later) log entered facts none out at =
    let before = waited setup n ticket later log entered facts.1 (own_rest e n later none) out at in
    let other = own_first e n later none in
    let now : out_of n (e ∷ (later ++ log)) ≡ Some ticket = out_later n ticket (e ∷ later) log none out in
    let there : is_some (ticket_at (history_of (e ∷ (later ++ log))) ticket) ≡ true = facts.0.tickets.out_is n ticket now in
    let mine : pass_of_ticket ticket (e ∷ (later ++ log)) ≡ Some n = facts.0.tickets.own_is n ticket now in
    let free : gives_ticket ticket e.entry ≡ false = ⊎_elim
    (λ (g : gives_ticket ticket e.entry ≡ true).
    let both : Some e.pass ≡ Some n = sym (then_is (gives_ticket ticket e.entry) (Some e.pass) (pass_of_ticket ticket (later ++ log)) g) ∙ mine in
    absurd (differ (sym other ∙ here e.pass n both)))
    (λ (g : gives_ticket ticket e.entry ≡ false). g)
    (cases_Bool (gives_ticket ticket e.entry)) in
    let after = entry_entered e.entry (history_of (later ++ log)) ticket entered free before.out there in
    record { out = after; same = facts.0.still ticket entered before.out after ∙ before.same }
  where
    here : (a b : ℕ) → Some a ≡ Some b → (a == b) ≡ true
    here a b p = let same : a ≡ b = cc in Rattle.std.proofs.lemmas.Bool.eq-eqb a b same

-- ---- a book that goes on from a front

none_left : (xs ys : List BookEntry) → xs ++ ys ≡ xs → ys ≡ []
none_left xs ys e = none ys (let long : length xs + length ys ≡ length xs = sym (length-append xs ys) ∙ ap length e in omega arith)
  where
    none : (zs : List BookEntry) → length zs ≡ 0 → zs ≡ []
    none [] q = refl
    none (z ∷ zs) q = absurd (omega (arith, q))

pub later_own : (n : ℕ) (front later : List BookEntry) → own by n front ≡ own by n (front ++ later) → own by n (log_of later) ≡ []
later_own n front later same =
    let split : own by n front ++ own by n later ≡ own by n front = sym (same ∙ filter-append (λ (e : BookEntry). by e == n) front later) in
    reverse_own n later ∙ ap reverse (none_left (own by n front) (own by n later) split)

pub log_later : (front later book : List BookEntry) → front ++ later ≡ book → log_of book ≡ log_of later ++ log_of front
log_later front later book e = ap log_of (sym e) ∙ reverse-append front later

pub waited_on : (setup : Setup) (n ticket : ℕ) (front book : List BookEntry) (entered : Entered) → AllFacts setup (log_of book) → (p : IsPrefix front book) → own by n front ≡ own by n book → out_of n (log_of front) ≡ Some ticket
    → ticket_at (history_of (log_of front)) ticket ≡ Some entered → Waited setup (history_of (log_of front)) (history_of (log_of book)) ticket entered
waited_on setup n ticket front book entered facts p same out at =
    let log = log_later front p.0 book p.1 in
    subst (λ (l : List BookEntry). Waited setup (history_of (log_of front)) (history_of l) ticket entered) (sym log)
    (waited setup n ticket (log_of p.0) (log_of front) entered (subst (AllFacts setup) log facts) (later_own n front p.0 (same ∙ ap (own by n) (sym p.1))) out at)

-- ---- what a work comes back with, and its output, at a later moment

done_shown : (found : Option Open) (work : Work) (back : JobDone) → IsDoneOn found work back → IsDoneOn (but_shown found) work back
done_shown None work back on = absurd on
done_shown (Some o) work back on = record { comes = on.comes; refuses = on.refuses }

shown_done : (found : Option Open) (work : Work) (back : JobDone) → IsDoneOn (but_shown found) work back → IsDoneOn found work back
shown_done None work back on = absurd on
shown_done (Some o) work back on = record { comes = on.comes; refuses = on.refuses }

pub done_later : (setup : Setup) (past later : History) (ticket : ℕ) (entered : Entered) (back : JobDone) → Waited setup past later ticket entered → ticket_at past ticket ≡ Some entered → IsDoneOut setup past (ticket_at past ticket) (Some back)
    → IsDoneOut setup later (ticket_at later ticket) (Some back)
done_later setup past later ticket entered back w at done =
    let on : IsDoneOn (operation_at setup past entered.op) entered.work back = subst (λ (o : Option Entered). IsDoneOut setup past o (Some back)) at done in
    let now : IsDoneOn (operation_at setup later entered.op) entered.work back =
    shown_done (operation_at setup later entered.op) entered.work back (subst (λ (o : Option Open). IsDoneOn o entered.work back) (sym w.same) (done_shown (operation_at setup past entered.op) entered.work back on)) in
    subst (λ (o : Option Entered). IsDoneOut setup later o (Some back)) (sym w.out) now

output_shown : (found : Option Open) (work : Work) → output_of (but_shown found) work ≡ output_of found work
output_shown None work = refl
output_shown (Some o) (Aad input) = refl
output_shown (Some o) (Text input) = refl
output_shown (Some o) (Last input signature) = refl

pub puts_later : (setup : Setup) (past later : History) (ticket most : ℕ) (entered : Entered) → Waited setup past later ticket entered → ticket_at past ticket ≡ Some entered → PutsOut setup past ticket most → PutsOut setup later ticket most
puts_later setup past later ticket most entered w at puts =
    let same : output_of (operation_at setup past entered.op) entered.work ≡ output_of (operation_at setup later entered.op) entered.work =
    sym (output_shown (operation_at setup past entered.op) entered.work) ∙ (ap (λ (o : Option Open). output_of o entered.work) (sym w.same) ∙ output_shown (operation_at setup later entered.op) entered.work) in
    let whole : output_out setup past (ticket_at past ticket) ≡ output_out setup later (ticket_at later ticket) =
    ap (output_out setup past) at ∙ (same ∙ sym (ap (output_out setup later) w.out)) in
    subst (λ (r : Result (List ℕ) Code). IfOk r (λ out. length out ≤ most)) whole puts
