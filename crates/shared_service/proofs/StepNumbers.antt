-- The numbers of a step: its places, and what it leaves of them.
use Rattle.std.proofs.Common.{◌≡◌, ℕ, ◌+◌, ◌≤◌, ◌&&◌, ◌||◌, Bool, true, false, List, [], ◌∷◌, length, Option, Some, None, is_some, unwrap_or, refl, sym, ap, ◌∙◌, subst, inl, inr, arith, ⊎_elim}
use Rattle.std.proofs.lemmas.Bool.{cases_Bool}
use Rattle.std.proofs.lemmas.List.{length-reverse}
use Rattle.std.specs.List.{list_any}
use Rattle.cipher_ops.specs.declared.job.Done.{Done as JobDone}
use Rattle.ks_outside.specs.declared.disk.Disk.{Ghosts as DiskGhosts}
use Rattle.ks_outside.specs.declared.entropy.Entropy.{Ghosts as EntropyGhosts}
use Rattle.tags.specs.declared.settled.Settled.{Settled}
use Rattle.rule_model.specs.declared.entry.Entry.TheVariants.{Acted}
use Rattle.rule_model.specs.declared.event.Act.{Act}
use Rattle.rule_model.specs.declared.event.Act.TheVariants.{Disconnect, Leave}
use Rattle.rule_model.specs.declared.field_sizes.FieldSizes.{FieldSizes}
use Rattle.rule_model.specs.Acts.{fixed_for, is_connect, is_disconnect, is_enter, is_leave}
use Rattle.rule_model.specs.Clients.{uid_of}
use Rattle.rule_model.specs.Entries.{History, admits, is_done}
use Rattle.rule_model.specs.Jobs.{HasDone}
use Rattle.rule_model.specs.Kept.{has_busy, open_of}
use Rattle.rule_model.specs.Legal.{MayStep}
use Rattle.rule_model.specs.declared.operation.Open.{Open}
use Rattle.rule_model.specs.Operations.{is_busy, is_of}
use Rattle.rule_model.specs.Setup.{Setup}
use Rattle.keystore_core.specs.declared.engine.Engine.{Engine}
use Rattle.keystore_core.specs.Engine.{Stands}
use Rattle.service_book.specs.declared.entry.BookEntry.{BookEntry}
use Rattle.service_book.specs.Book.{IsOwnAct, client_of, history_of, log_of, pass_of_ticket}
use Rattle.rule_model.specs.Acts.{need_of}
use Rattle.service_book.specs.Limits.{MOST_ENTRIES, count}
use Rattle.service_book.specs.Limits as limits
use Rattle.shared_service.specs.declared.name.ServiceId.{ServiceId}
use Rattle.shared_service.specs.Calls.{OneStep}
use Rattle.shared_service.specs.Desks.{HasPlaces, IsDesk, MayMake, is_set_aside, weight}
use Rattle.shared_service.specs.Facts.{AllFacts, AllWaitedFor, Facts, IsWaitedFor, pass_of_client}
use Rattle.shared_service.specs.Owning.{is_connected, is_parting, out_of}
use Rattle.shared_service.proofs.Entries.{leave_in_turn, leave_is}
use Rattle.shared_service.proofs.Logs.{acted_of, settled_log, step_log}
use Rattle.shared_service.proofs.Replying.{leave_settles_none, parting_done}
use Rattle.shared_service.proofs.Weights.{need_some, one_if, some_length, weight_left, weight_parted, weight_step}

pub and_left : (a b : Bool) → a && b ≡ true → a ≡ true
and_left true b e = refl
and_left false b e = cc

pub and_right : (a b : Bool) → a && b ≡ true → b ≡ true
and_right true b e = e
and_right false b e = cc

pub newest : (setup : Setup) (log : List BookEntry) → AllFacts setup log → Facts setup log
newest setup [] all = all
newest setup (e ∷ log) all = all.0

-- ---- the disconnect of a connected client is admitted

disconnect_of : (act : Act) → is_disconnect act ≡ true → act ≡ Disconnect
disconnect_of Disconnect e = refl
disconnect_of _ e = cc

none_of : (b : Bool) → (b ≡ true → ⊥) → b ≡ false
none_of true never = absurd (never refl)
none_of false never = refl

-- no work on an operation of a pass's client is out, where no ticket of the pass is
idle_client : (setup : Setup) (log : List BookEntry) (pass client : ℕ) (opened : List Open) → Facts setup log → client_of pass log ≡ Some client → out_of pass log ≡ None → AllWaitedFor log opened → list_any (λ o. is_of client o && is_busy o) opened ≡ false
idle_client setup log pass client [] facts mine idle all = refl
idle_client setup log pass client (o ∷ opened) facts mine idle all = both (idle_client setup log pass client opened facts mine idle all.1)
    (none_of (is_of client o && is_busy o) (λ h. first o.ticket refl (and_left (is_of client o) (is_busy o) h) (and_right (is_of client o) (is_busy o) h)))
  where
    both : list_any (λ o. is_of client o && is_busy o) opened ≡ false → is_of client o && is_busy o ≡ false → list_any (λ o. is_of client o && is_busy o) (o ∷ opened) ≡ false
    both below here = rw (here, below) refl

    first : (t : Option ℕ) → o.ticket ≡ t → is_of client o ≡ true → is_some o.ticket ≡ true → ⊥
    first None is own busy = let no : is_some o.ticket ≡ false = ap is_some is in cc
    first (Some ticket) is own busy =
        let waits : IsWaitedFor log o (Some ticket) = subst (IsWaitedFor log o) is all.0 in
        let known = facts.tickets.known ticket waits.1 in
        owner (pass_of_ticket ticket log) refl known waits
      where
        owner : (p : Option ℕ) → pass_of_ticket ticket log ≡ p → is_some (pass_of_ticket ticket log) ≡ true → IsWaitedFor log o (Some ticket) → ⊥
        owner None q known waits = let no : is_some (pass_of_ticket ticket log) ≡ false = ap is_some q in cc
        owner (Some p) q known waits =
            let client_is : o.operation.client ≡ client = Rattle.std.proofs.lemmas.Bool.eqb-true o.operation.client client own in
            ⊎_elim
            (λ (zero : o.operation.client ≡ 0).
            let nobody : None ≡ Some pass = sym facts.clients.none_zero ∙ (ap (λ (c : ℕ). pass_of_client c log) (sym zero ∙ client_is) ∙ facts.clients.own_is pass client mine) in differ nobody)
            (λ (whose : pass_of_client o.operation.client log ≡ Some p).
            let here : pass_of_client client log ≡ Some p = ap (λ (c : ℕ). pass_of_client c log) (sym client_is) ∙ whose in
            let same : Some p ≡ Some pass = sym here ∙ facts.clients.own_is pass client mine in
            let out : out_of pass log ≡ Some ticket = facts.tickets.whole pass ticket waits.1 (q ∙ same) in
            differ (sym idle ∙ out))
            (waits.2 p q)
          where
            differ : {m : ℕ} → None ≡ Some m → ⊥
            differ e = cc

-- ---- what a step needs and leaves

module _ {D N : Type 0} (d : DiskGhosts D) (n : EntropyGhosts N) (name : ServiceId N) (engine : Engine) (disk : D) (entropy : N) (book : List BookEntry) (pass : ℕ) (room : FieldSizes) (back : Option JobDone) (s : OneStep)
    (desk : IsDesk d n name engine disk entropy book) (may : MayMake name (log_of book) pass s.event room back)
    (follows : (setup : Setup) (past : History) → Stands setup engine past → HasDone setup past s.event.act back → MayStep setup past s.settled s.event s.drawn s.reply) where
  may_step : MayStep desk.setup (history_of (log_of book)) s.settled s.event s.drawn s.reply
  may_step = follows desk.setup (history_of (log_of book)) (desk.stands desk.setup desk.is_setup) (may.back_is desk.setup desk.is_setup)

  facts_now : Facts desk.setup (log_of book)
  facts_now = newest desk.setup (log_of book) (desk.facts desk.setup desk.is_setup)

  leave_none : is_leave s.event.act ≡ true → s.settled ≡ None
  leave_none l = let is = leave_is s.event.act l in leave_settles_none s.settled (history_of (log_of book)) s.event (ap (λ (a : Act). (fixed_for a).settles) is.1) may_step.settles

  pub disconnect_none : is_disconnect s.event.act ≡ true → s.settled ≡ None
  disconnect_none e = leave_settles_none s.settled (history_of (log_of book)) s.event (ap (λ (a : Act). (fixed_for a).settles) (disconnect_of s.event.act e)) may_step.settles

  -- a leave has its place, and the disconnect of a connected client
  leave_place : is_leave s.event.act ≡ true → count (limits.is_of is_leave) (log_of book) + 1 ≤ count (admits is_enter) (log_of book)
  leave_place l =
      let is = leave_is s.event.act l in
      let out = leave_in_turn s.event.act pass is.0 (log_of book) is.1 may.turn in
      let covers = facts_now.tickets.covers in
      let few = covers.few in
      let some = some_length is.0 covers.numbers (covers.all pass is.0 out) in
      omega arith

  client_there : is_parting s.event.act pass (log_of book) ≡ true → (client : ℕ) × (client_of pass (log_of book) ≡ Some client)
  client_there p = found (client_of pass (log_of book)) (facts_now.clients.has_client pass (and_right (is_disconnect s.event.act) (is_connected pass (log_of book)) p))
    where
      found : (o : Option ℕ) → is_some o ≡ true → (client : ℕ) × (o ≡ Some client)
      found None e = cc
      found (Some client) e = (client, refl)

  parting_place : is_parting s.event.act pass (log_of book) ≡ true → count (admits is_disconnect) (log_of book) + 1 ≤ count (admits is_connect) (log_of book)
  parting_place p =
      let client = client_there p in
      let covers = facts_now.clients.covers in
      let few = covers.few in
      let some = some_length client.0 covers.numbers (covers.all pass client.0 (and_right (is_disconnect s.event.act) (is_connected pass (log_of book)) p) client.1) in
      omega arith

  own_client : (p : is_parting s.event.act pass (log_of book) ≡ true) → s.event.client ≡ (client_there p).0
  own_client p =
      let is = disconnect_of s.event.act (and_left (is_disconnect s.event.act) (is_connected pass (log_of book)) p) in
      let own : s.event.client ≡ unwrap_or (client_of pass (log_of book)) 0 = subst (λ (a : Act). IsOwnAct a s.event.client pass (log_of book)) is may.own in
      own ∙ ap (λ (o : Option ℕ). unwrap_or o 0) (client_there p).1

  pub idle_now : is_leave s.event.act ≡ false → out_of pass (log_of book) ≡ None
  idle_now l = Rattle.shared_service.proofs.Entries.idle_in_turn s.event.act pass (log_of book) l may.turn

  pub parting_admits : is_parting s.event.act pass (log_of book) ≡ true → is_done s.reply ≡ true
  parting_admits p =
      let client = client_there p in
      let is = disconnect_of s.event.act (and_left (is_disconnect s.event.act) (is_connected pass (log_of book)) p) in
      let connected = and_right (is_disconnect s.event.act) (is_connected pass (log_of book)) p in
      let own : s.event.client ≡ client.0 = own_client p in
      let none = disconnect_none (and_left (is_disconnect s.event.act) (is_connected pass (log_of book)) p) in
      let there : is_some (uid_of (history_of (log_of book)) s.event.client) ≡ true = ap (λ (c : ℕ). is_some (uid_of (history_of (log_of book)) c)) own ∙ (facts_now.clients.seen pass client.0 client.1 ∙ connected) in
      let idle : has_busy desk.setup (history_of (log_of book)) s.event.client ≡ false = ap (λ (c : ℕ). has_busy desk.setup (history_of (log_of book)) c) own
      ∙ idle_client desk.setup (log_of book) pass client.0 (open_of desk.setup (history_of (log_of book))) facts_now client.1 (idle_now (ap is_leave is)) facts_now.busy in
      let at : Rattle.rule_model.specs.Legal.MayFollow desk.setup (history_of (log_of book)) s.event s.drawn s.reply =
      subst (λ (o : Option Settled). Rattle.rule_model.specs.Legal.MayFollow desk.setup (Rattle.rule_model.specs.Entries.after_settling o (history_of (log_of book))) s.event s.drawn s.reply) none may_step.follows in
      parting_done desk.setup (history_of (log_of book)) s.event s.drawn s.reply is there idle at

  set_aside_none : is_set_aside s.event.act pass (log_of book) ≡ true → s.settled ≡ None
  set_aside_none e = ⊎_elim (λ (l : is_leave s.event.act ≡ true). leave_none l)
      (λ (l : is_leave s.event.act ≡ false). disconnect_none (and_left (is_disconnect s.event.act) (is_connected pass (log_of book)) (sym (ap (λ (b : Bool). b || is_parting s.event.act pass (log_of book)) l) ∙ e)))
      (cases_Bool (is_leave s.event.act))

  few_settled : one_if (is_some s.settled) ≤ 1
  few_settled = few (is_some s.settled)
    where
      few : (b : Bool) → one_if b ≤ 1
      few true = omega arith
      few false = omega arith

  needs : one_if (is_some s.settled) + 1 ≤ need_of s.event.act
  needs = need_some s.event.act (one_if (is_some s.settled)) few_settled (λ e. ap (λ (o : Option Settled). one_if (is_some o)) (disconnect_none e))

  -- there are places for the entries of the step
  pub step_places : (places : ℕ) → weight (log_of book) ≤ places → HasPlaces s.event.act pass (log_of book) places → length book + one_if (is_some s.settled) + 1 ≤ places
  step_places places within (inr have) = let long = length-reverse book in let need = needs in let room = have.0 in omega arith
  step_places places within (inl e) =
      let long = length-reverse book in
      let none : one_if (is_some s.settled) ≡ 0 = ap (λ (o : Option Settled). one_if (is_some o)) (set_aside_none e) in
      ⊎_elim (λ (l : is_leave s.event.act ≡ true). let place = leave_place l in omega arith)
      (λ (l : is_leave s.event.act ≡ false). let place = parting_place (sym (ap (λ (b : Bool). b || is_parting s.event.act pass (log_of book)) l) ∙ e) in omega arith)
      (cases_Bool (is_leave s.event.act))

  not_connect : (act : Act) → is_leave act ≡ true → (is_connect act ≡ false) × (is_enter act ≡ false)
  not_connect (Leave ticket) e = (refl, refl)
  not_connect _ e = cc

  -- and what is set aside afterwards has its places
  pub step_weight : (places : ℕ) → weight (log_of book) ≤ places → weight (log_of book) ≤ MOST_ENTRIES → HasPlaces s.event.act pass (log_of book) places
      → (weight (step_log pass s (log_of book)) ≤ places) × (weight (step_log pass s (log_of book)) ≤ MOST_ENTRIES)
  step_weight places within few (inr have) = let next = weight_step pass s (log_of book) disconnect_none in let room = have.0 in let most = have.1 in (omega arith, omega arith)
  step_weight places within few (inl e) =
      let none = set_aside_none e in
      let same : weight (step_log pass s (log_of book)) ≡ weight (acted_of pass s ∷ log_of book) = ap (λ (o : Option Settled). weight (acted_of pass s ∷ settled_log pass s o (log_of book))) none in
      let next : weight (acted_of pass s ∷ log_of book) ≤ weight (log_of book) = ⊎_elim
      (λ (l : is_leave s.event.act ≡ true). let no = not_connect s.event.act l in weight_left pass s (log_of book) l no.0 no.1 (leave_place l))
      (λ (l : is_leave s.event.act ≡ false).
      let p = sym (ap (λ (b : Bool). b || is_parting s.event.act pass (log_of book)) l) ∙ e in
      let is = disconnect_of s.event.act (and_left (is_disconnect s.event.act) (is_connected pass (log_of book)) p) in
      let done : admits is_disconnect (Acted s.event s.drawn s.reply) ≡ true = ap (λ (b : Bool). b && is_disconnect s.event.act) (parting_admits p) ∙ ap is_disconnect is in
      weight_parted pass s (log_of book) done (ap is_connect is) (ap is_enter is) (parting_place p))
      (cases_Bool (is_leave s.event.act)) in
      (omega arith, omega arith)
