-- A desk after a step.
use Rattle.std.proofs.Common.{◌≡◌, ℕ, ◌*◌, ◌^◌, ◌≤◌, ◌<◌, ◌==◌, List, [], ◌∷◌, ◌++◌, length, Option, Some, None, unwrap_or, append_assoc, length-append, refl, sym, ap, ◌∙◌, subst, arith}
use Rattle.cipher_ops.specs.declared.job.Done.{Done as JobDone}
use Rattle.ks_outside.specs.declared.disk.Disk.{Ghosts as DiskGhosts}
use Rattle.ks_outside.specs.declared.entropy.Entropy.{Ghosts as EntropyGhosts}
use Rattle.ks_outside.specs.Faults.{CountsFaults}
use Rattle.ks_outside.specs.Shown.{Drew}
use Rattle.tags.specs.declared.settled.Settled.{Settled}
use Rattle.rule_model.specs.declared.entry.Entry.{Entry}
use Rattle.rule_model.specs.declared.entry.Entry.TheVariants.{Acted, Settling}
use Rattle.rule_model.specs.declared.event.Act.{Act}
use Rattle.rule_model.specs.declared.event.Act.TheVariants.{Connect, Leave}
use Rattle.rule_model.specs.declared.event.Event.{Event}
use Rattle.rule_model.specs.declared.field_sizes.FieldSizes.{FieldSizes}
use Rattle.rule_model.specs.declared.reply.Reply.{Reply}
use Rattle.rule_model.specs.Drawn.{is_entropy_fault}
use Rattle.rule_model.specs.Entries.{History, after_step}
use Rattle.rule_model.specs.Jobs.{HasDone, Stays}
use Rattle.rule_model.specs.Legal.{Legal, MayStep}
use Rattle.rule_model.specs.Settling.{is_disk_fault}
use Rattle.rule_model.specs.Setup.{Setup}
use Rattle.keystore_core.specs.declared.engine.Engine.{Engine}
use Rattle.keystore_core.specs.Engine.{Stands, StoreStands}
use Rattle.service_book.specs.declared.entry.BookEntry.{BookEntry}
use Rattle.service_book.specs.Book.{AreLater, Counts, Follows, IsCausedLog, IsOwnAct, behind, client_of, counts_after, history_of, log_of}
use Rattle.shared_service.specs.declared.name.ServiceId.{ServiceId}
use Rattle.service_book.specs.Limits.{acted_bytes, recorded}
use Rattle.shared_service.specs.Calls.{OneStep, entries_of, entry_by, settling_by}
use Rattle.shared_service.specs.Desks.{IsDesk, MayMake, counts_of}
use Rattle.shared_service.specs.Facts.{AllFacts}
use Rattle.shared_service.specs.Names.{counts_before, entropy_before}
use Rattle.shared_service.proofs.Drawing.{drew_step}
use Rattle.shared_service.proofs.Fitting.{same_if}
use Rattle.shared_service.proofs.Logs.{acted_of, history_step, log_step, settled_log, settling_of, step_log}
use Rattle.shared_service.proofs.StepFacts.{facts_step}

-- ---- the log is caused

-- the newest entry is no settling
abbrev EndsStep : List BookEntry → Type 0
EndsStep [] = Unit {0}
EndsStep (e ∷ log) = is_acted e.entry where
  is_acted : Entry → Type 0
  is_acted (Acted event drawn reply) = Unit {0}
  is_acted (Settling settled) = ⊥

legal_ends : (setup : Setup) (log : List BookEntry) → Legal setup (history_of log) → EndsStep log
legal_ends setup [] legal = tt
legal_ends setup (e ∷ log) legal = by_entry e.entry legal where
  by_entry : (entry : Entry) → Legal setup (entry ∷ history_of log) → EndsStep (record e { entry = entry } ∷ log)
  by_entry (Acted event drawn reply) legal = tt
  by_entry (Settling settled) legal = absurd legal.0

follows_on : (start : Counts) (log : List BookEntry) (e : BookEntry) → EndsStep log → AreLater (counts_after start log) (Rattle.service_book.specs.Book.before e) → Follows start log e
follows_on start [] e ends later = later
follows_on start (last ∷ log) e ends later = by_entry last.entry ends where
  by_entry : (entry : Entry) → EndsStep (record last { entry = entry } ∷ log) → Follows start (record last { entry = entry } ∷ log) e
  by_entry (Acted event drawn reply) ends = later
  by_entry (Settling settled) ends = absurd ends

-- the client and the ticket of an act are read of the entries that have them, and a settling has none
own_settled : (pass : ℕ) (s : OneStep) (settled : Option Settled) (act : Act) (client n : ℕ) (log : List BookEntry) → IsOwnAct act client n log → IsOwnAct act client n (settled_log pass s settled log)
own_settled pass s None act client n log own = own
own_settled pass s (Some settled) act client n log own = by_act act own where
  by_act : (act : Act) → IsOwnAct act client n log → IsOwnAct act client n (settling_of pass s settled ∷ log)
  by_act (Leave ticket) own = own
  by_act (Connect uid) own = own
  by_act _ own = own ∙ ap (λ (o : Option ℕ). unwrap_or o 0) (sym (same_if (pass == n) (client_of n log)))

-- the step that was made between these states of the devices
abbrev pub Step : {D N : Type 0} → DiskGhosts D → EntropyGhosts N → D → D → N → N → Event → Option Settled → List ℕ → Reply → OneStep
Step d n disk disk' entropy entropy' event settled drawn reply =
    record { settled = settled; event = event; drawn = drawn; reply = reply; before = counts_of d n disk entropy; behind = counts_of d n disk' entropy' }

module _ {D N : Type 0} (d : DiskGhosts D) (n : EntropyGhosts N) (name : ServiceId N) (engine engine' : Engine) (disk disk' : D) (entropy entropy' : N) (book : List BookEntry) (pass : ℕ) (event : Event) (room : FieldSizes) (back : Option JobDone)
    (settled : Option Settled) (drawn : List ℕ) (reply : Reply) where
  abbrev This : OneStep
  This = Step d n disk disk' entropy entropy' event settled drawn reply

  -- the book after it
  pub step_grown : (mid new : List BookEntry) (entry : BookEntry) (copied : Reply) (copy : Event) (db da eb ea : ℕ) → db ≡ d.fault_count disk → da ≡ d.fault_count disk' → eb ≡ n.fault_count entropy → ea ≡ n.fault_count entropy'
      → mid ≡ book ++ settling_by pass (record { disk = db; entropy = eb }) (record { disk = da; entropy = ea }) settled → new ≡ mid ++ entry ∷ []
      → entry ≡ entry_by pass (record { disk = db; entropy = eb }) (record { disk = da; entropy = ea }) (Acted copy drawn copied) → copy ≡ event → copied ≡ reply → new ≡ book ++ entries_of pass This
  step_grown mid new entry copied copy db da eb ea p q r t grows adds is same copies =
      let both : mid ++ entry ∷ [] ≡ book ++ (settling_by pass (record { disk = db; entropy = eb }) (record { disk = da; entropy = ea }) settled ++ entry_by pass (record { disk = db; entropy = eb }) (record { disk = da; entropy = ea }) (Acted copy drawn copied) ∷ []) =
      (λ i. grows i ++ is i ∷ []) ∙ append_assoc book _ _ in
      adds ∙ (both ∙ (λ i. book ++ (settling_by pass (record { disk = p i; entropy = r i }) (record { disk = q i; entropy = t i }) settled ++ entry_by pass (record { disk = p i; entropy = r i }) (record { disk = q i; entropy = t i }) (Acted (same i) drawn (copies i)) ∷ [])))

  -- the bytes that it records
  recorded_settled : (log : List BookEntry) (v : Option Settled) → recorded (settled_log pass This v log) ≡ recorded log
  recorded_settled log None = refl
  recorded_settled log (Some v) = omega arith

  pub step_small : recorded (log_of book) ≤ length book * 2 ^ 35 → acted_bytes event.act reply < 2 ^ 34 → recorded (log_of (book ++ entries_of pass This)) ≤ length (book ++ entries_of pass This) * 2 ^ 35
  step_small before few =
      let same : recorded (log_of (book ++ entries_of pass This)) ≡ recorded (step_log pass This (log_of book)) = ap recorded (log_step pass This book) in
      let mid = recorded_settled (log_of book) settled in
      let long = length-append book (entries_of pass This) in
      let more = length-append (settling_by pass (counts_of d n disk entropy) (counts_of d n disk' entropy') settled) (acted_of pass This ∷ []) in
      omega arith

  pub caused_step : (start : Counts) (log : List BookEntry) → IsCausedLog start log → EndsStep log → AreLater (counts_after start log) (counts_of d n disk entropy) → IsOwnAct event.act event.client pass log
      → CountsFaults (d.fault_count disk) (d.fault_count disk') (is_disk_fault reply) → CountsFaults (n.fault_count entropy) (n.fault_count entropy') (is_entropy_fault reply) → IsCausedLog start (step_log pass This log)
  caused_step start log caused ends later own faults draws = by_settled settled refl where
    rises : AreLater (counts_of d n disk entropy) (counts_of d n disk' entropy')
    rises = record { disk = faults.later; entropy = draws.later }

    by_settled : (v : Option Settled) → settled ≡ v → IsCausedLog start (acted_of pass This ∷ settled_log pass This v log)
    by_settled None e = (record { follows = follows_on start log (acted_of pass This) ends later; rises = rises; made = (record { disk = faults.rises; entropy = draws.rises }, own) }, caused)
    by_settled (Some v) e = (
      record { follows = record { before_is = refl; behind_is = refl; pass_is = refl }; rises = rises; made = (record { disk = faults.rises; entropy = draws.rises }, own_settled pass This (Some v) event.act event.client pass log own) },
      (record { follows = follows_on start log (settling_of pass This v) ends later; rises = rises; made = tt }, caused),
    )

  pub desk_step : IsDesk d n name engine disk entropy book → MayMake name (log_of book) pass event room back
      → ((setup : Setup) (past : History) → Stands setup engine past → HasDone setup past event.act back → Stands setup engine' (after_step settled event drawn reply past))
      → ((setup : Setup) (past : History) → Stands setup engine past → HasDone setup past event.act back → MayStep setup past settled event drawn reply)
      → ((setup : Setup) (past : History) → Stands setup engine past → HasDone setup past event.act back → Stays setup past (after_step settled event drawn reply past))
      → ((setup : Setup) (past : History) → Stands setup engine past → StoreStands d setup engine disk past → StoreStands d setup engine' disk' (after_step settled event drawn reply past))
      → CountsFaults (d.fault_count disk) (d.fault_count disk') (is_disk_fault reply) → Drew n entropy entropy' drawn (is_entropy_fault reply)
      → IsDesk d n name engine' disk' entropy' (book ++ entries_of pass This)
  desk_step desk may stands follows stays store faults drew =
      let log : List BookEntry = log_of book in
      let is : log_of (book ++ entries_of pass This) ≡ step_log pass This log = log_step pass This book in
      let history : after_step settled event drawn reply (history_of log) ≡ history_of (log_of (book ++ entries_of pass This)) = sym (ap history_of is ∙ history_step pass This log) in
      record {
        setup = desk.setup;
        is_setup = desk.is_setup;
        stands = λ s of. subst (Stands s engine') history (stands s (history_of log) (desk.stands s of) (may.back_is s of));
        store = λ s of. subst (StoreStands d s engine' disk') history (store s (history_of log) (desk.stands s of) (desk.store s of));
        caused = subst (IsCausedLog (counts_before name)) (sym is) (caused_step (counts_before name) log desk.caused (legal_ends desk.setup log (desk.stands desk.setup desk.is_setup).legal) desk.counts may.own faults drew.faults);
        counts = subst (λ (l : List BookEntry). AreLater (counts_after (counts_before name) l) (counts_of d n disk' entropy')) (sym is) (record { disk = same_le _; entropy = same_le _ });
        drew = drew_step n (entropy_before name) entropy entropy' pass This book desk.drew drew.bytes;
        facts = λ s of. subst (AllFacts s) (sym is) (facts_step s pass This log (desk.facts s of) (desk.stands s of).legal (follows s (history_of log) (desk.stands s of) (may.back_is s of)) (stays s (history_of log) (desk.stands s of) (may.back_is s of)) may.own may.turn);
      }
    where
      same_le : (m : ℕ) → m ≤ m
      same_le m = omega arith
