-- What a service came to.
use Rattle.std.proofs.Common.{◌≡◌, ◌<◌, ◌≤◌, ℕ, Bool, true, false, List, [], length, Option, Some, refl, sym, ap, subst, ◌∙◌}
use Rattle.std.specs.Prelude.{All}
use Rattle.ks_outside.proofs.Shown.{counts_none}
use Rattle.ks_outside.specs.Faults.{CountsFaults, Rises}
use Rattle.ks_outside.specs.Images.{AllImages, tells}
use Rattle.ks_outside.specs.declared.disk.Disk.{Ghosts as DiskGhosts}
use Rattle.ks_outside.specs.declared.entropy.Entropy.{Ghosts as EntropyGhosts}
use Rattle.ks_outside.specs.declared.link.Link.{Ghosts as LinkGhosts}
use Rattle.ks_outside.specs.declared.listener.Listener.{Ghosts as ListenerGhosts}
use Rattle.journal_records.specs.LastingPart.{Lasting}
use Rattle.key_database.specs.Store.{StandsFor}
use Rattle.rule_model.specs.Legal.{Legal}
use Rattle.rule_model.specs.Setup.{Setup}
use Rattle.keystore_core.specs.declared.engine.Engine.{Engine}
use Rattle.journal_records.specs.declared.fault.StoreFault.{StoreFault}
use Rattle.journal_records.specs.declared.fault.StoreFault.TheVariants as faults
use Rattle.keystore_core.specs.Engine.{MayHold}
use Rattle.rule_model.specs.Entries.{History}
use Rattle.service_book.specs.declared.entry.BookEntry.{BookEntry}
use Rattle.service_book.specs.Book.{AreLater, Counts, IsCaused, counts_after, history_of, log_of}
use Rattle.connection_workers.specs.declared.serving.Attendance.{Attendance}
use Rattle.connection_workers.specs.declared.serving.Attendance.TheVariants as attendances
use Rattle.ks_outside.specs.declared.clock.Reading.{Reading}
use Rattle.connection_workers.specs.Arrivals.{links_of, taken_by}
use Rattle.connection_workers.specs.Workers.{IsAttended, is_fault}
use Rattle.connection_workers.specs.declared.intake.Arrival.{Arrival}
use Rattle.shared_service.specs.Drawn.{DrewAll}
use Rattle.shared_service.specs.Owning.{by, is_connected}
use Rattle.keystore_server.specs.declared.end.ServeEnd.{ServeEnd}
use Rattle.keystore_server.specs.declared.end.ServeStatus.{ServeStatus}
use Rattle.keystore_server.specs.declared.end.ServeStatus.TheVariants as statuses
use Rattle.keystore_server.specs.declared.words.ServeForm.{ServeForm}
use Rattle.keystore_server.specs.Ends.{Attended, HasWorked, IsCompleted, IsRefused, ServesOn, Wanting, counts_of, is_listen_fault, refusal_of, status_of}

-- ---- the end

fault_is : (attendance : Attendance) → is_listen_fault (status_of attendance) ≡ is_fault attendance
fault_is attendances.Served = refl
fault_is attendances.ListenFault = refl
fault_is attendances.Memory = refl

no_disk_fault : (attendance : Attendance) → status_of attendance ≡ statuses.DiskFault → ⊥
no_disk_fault attendances.Served e = cc
no_disk_fault attendances.ListenFault e = cc
no_disk_fault attendances.Memory e = cc

no_usage : (attendance : Attendance) → status_of attendance ≡ statuses.Usage → ⊥
no_usage attendances.Served e = cc
no_usage attendances.ListenFault e = cc
no_usage attendances.Memory e = cc

completed : (attendance : Attendance) → IsCompleted (status_of attendance)
completed attendances.Served = tt
completed attendances.ListenFault = tt
completed attendances.Memory = tt

module _ {B L D N : Type 0} (b : ListenerGhosts B L) (l : LinkGhosts L) (d : DiskGhosts D) (n : EntropyGhosts N) (shows : Reading → Type 0) (leaves : L → Option L → Type 0) (setup : Setup) (form : ServeForm) (listener : B) (disk : D) (entropy : N) where
  pub attended : (last : B) (later : D) (drawn : N) (attendance : Attendance) (status : ServeStatus) (book : List BookEntry) (start : Counts) (connections : ℕ) (arrivals : List (Arrival L)) → status ≡ status_of attendance
      → connections ≡ form.connections → IsAttended b connections (length arrivals) listener last attendance → ∥ Legal setup (history_of (log_of book)) ∥₁ → start ≡ counts_of d n disk entropy → ∥ IsCaused start book ∥₁
      → AreLater (counts_after start (log_of book)) (counts_of d n later drawn) → All (λ (e : BookEntry). by e < form.workers) book → ((pass : ℕ) → pass < form.workers → HasWorked l shows leaves pass (links_of (taken_by pass arrivals)) book) → ((pass : ℕ) → form.workers ≤ pass → taken_by pass arrivals ≡ [])
      → (attendance ≡ attendances.Memory → book ≡ []) → ((pass : ℕ) → is_connected pass (log_of book) ≡ false) → ∥ AllImages d later (MayHold setup (history_of (log_of book))) ∥₁
      → ∥ DrewAll n entropy drawn book ∥₁ → ServesOn b l d n shows leaves setup form listener disk entropy (record { status = status; listener = last; disk = later; entropy = drawn; book = Some book })
  attended last later drawn attendance status book start connections arrivals status_is wanted came legal start_is caused counts few worked others unserved parted holds drew = Attended (record {
    book = book;
    book_is = refl;
    attendance = attendance;
    status_is = status_is;
    arrivals = arrivals;
    attended = subst (λ (m : ℕ). IsAttended b m (length arrivals) listener last attendance) wanted came;
    legal = legal;
    caused = subst (λ (s : Counts). ∥ IsCaused s book ∥₁) start_is caused;
    counts = subst (λ (s : Counts). AreLater (counts_after s (log_of book)) (counts_of d n later drawn)) start_is counts;
    drew = drew;
    few = few;
    worked = worked;
    others = others;
    unserved = unserved;
    parted = parted;
    holds = holds;
  })

  pub serves_listened : (end : ServeEnd B D N) → ServesOn b l d n shows leaves setup form listener disk entropy end → CountsFaults (b.fault_count listener) (b.fault_count end.listener) (is_listen_fault end.status)
  serves_listened end (Attended is) =
      subst (λ (t : Bool). CountsFaults (b.fault_count listener) (b.fault_count end.listener) t) (sym (ap is_listen_fault is.status_is ∙ fault_is is.attendance)) is.attended.listened.faults
  serves_listened end (Wanting e) =
      subst (λ (x : ServeEnd B D N). CountsFaults (b.fault_count listener) (b.fault_count x.listener) (is_listen_fault x.status)) (sym e) (counts_none (b.fault_count listener))

  pub serves_disk : (end : ServeEnd B D N) → ServesOn b l d n shows leaves setup form listener disk entropy end → end.status ≡ statuses.DiskFault → ⊥
  serves_disk end (Attended is) e = no_disk_fault is.attendance (sym is.status_is ∙ e)
  serves_disk end (Wanting same) e = let no : ◌≡◌ {A = ServeStatus} statuses.Memory statuses.DiskFault = sym (ap (λ (x : ServeEnd B D N). x.status) same) ∙ e in cc

  pub serves_usage : (end : ServeEnd B D N) → ServesOn b l d n shows leaves setup form listener disk entropy end → end.status ≡ statuses.Usage → ⊥
  serves_usage end (Attended is) e = no_usage is.attendance (sym is.status_is ∙ e)
  serves_usage end (Wanting same) e = let no : ◌≡◌ {A = ServeStatus} statuses.Memory statuses.Usage = sym (ap (λ (x : ServeEnd B D N). x.status) same) ∙ e in cc

  pub serves_completed : (end : ServeEnd B D N) → ServesOn b l d n shows leaves setup form listener disk entropy end → IsCompleted end.status
  serves_completed end (Attended is) = subst IsCompleted (sym is.status_is) (completed is.attendance)
  serves_completed end (Wanting same) = subst (λ (x : ServeEnd B D N). IsCompleted x.status) (sym same) tt

-- ---- a store that was not opened

pub refused_listens : (fault : StoreFault) → is_listen_fault (refusal_of fault) ≡ false
refused_listens faults.Device = refl
refused_listens (faults.Corrupted offset) = refl
refused_listens faults.Memory = refl

pub refused_usage : (fault : StoreFault) → refusal_of fault ≡ statuses.Usage → ⊥
refused_usage faults.Device e = cc
refused_usage (faults.Corrupted offset) e = cc
refused_usage faults.Memory e = cc

pub refused_disk : {D : Type 0} (d : DiskGhosts D) (old new : D) (fault : StoreFault) → IsRefused d old new fault → refusal_of fault ≡ statuses.DiskFault → Rises (d.fault_count old) (d.fault_count new)
refused_disk d old new faults.Device is e = is.goes.cause.rises refl
refused_disk d old new (faults.Corrupted offset) is e = absurd (cc)
refused_disk d old new faults.Memory is e = absurd (cc)

pub refused_completed : {D : Type 0} (d : DiskGhosts D) (old new : D) (fault : StoreFault) → IsRefused d old new fault → (part : Lasting) → AllImages d old (StandsFor part) → tells d old ≡ true → IsCompleted (refusal_of fault)
refused_completed d old new faults.Device is part stands told = tt
refused_completed d old new (faults.Corrupted offset) is part stands told = is.finds part stands told
refused_completed d old new faults.Memory is part stands told = tt
