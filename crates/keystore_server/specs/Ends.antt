-- How a service over a listener ends: what was opened, what was served, what its book says, and what is on the disk.
use Rattle.std.specs.Prelude.{◌≡◌, ◌<◌, ℕ, All, Bool, true, false, List, [], length, ◌≤◌, Option, Some, None, Err}
use Rattle.ks_outside.specs.Images.{AllImages, Goes, tells}
use Rattle.ks_outside.specs.declared.clock.Reading.{Reading}
use Rattle.ks_outside.specs.declared.disk.Disk.{Ghosts as DiskGhosts}
use Rattle.ks_outside.specs.declared.entropy.Entropy.{Ghosts as EntropyGhosts}
use Rattle.ks_outside.specs.declared.link.Link.{Ghosts as LinkGhosts}
use Rattle.ks_outside.specs.declared.listener.Listener.{Ghosts as ListenerGhosts}
use Rattle.tags.specs.declared.policy.PolicyRow.{PolicyRow}
use Rattle.tags.specs.declared.secrets.DeviceSecrets.{DeviceSecrets}
use Rattle.journal_records.specs.LastingPart.{Lasting}
use Rattle.key_database.specs.Store.{StandsFor}
use Rattle.rule_model.specs.declared.event.Act.{Act}
use Rattle.rule_model.specs.declared.reply.Reply.{Reply}
use Rattle.rule_model.specs.Legal.{Legal}
use Rattle.rule_model.specs.Setup.{Setup}
use Rattle.journal_records.specs.Commits.{open_failed}
use Rattle.journal_records.specs.declared.fault.StoreFault.{StoreFault}
use Rattle.journal_records.specs.declared.fault.StoreFault.TheVariants as faults
use Rattle.keystore_core.specs.declared.engine.Engine.{Engine}
use Rattle.keystore_core.specs.Engine.{MayHold, OpensFor, OpensStore}
use Rattle.keystore_core.specs.Opening.{IsBrought, IsRead, IsSetup, LeavesRefused}
use Rattle.service_book.specs.declared.entry.BookEntry.{BookEntry}
use Rattle.service_book.specs.Book.{AreLater, Counts, IsCaused, counts_after, history_of, log_of}
use Rattle.connection_workers.specs.declared.serving.Attendance.{Attendance}
use Rattle.connection_workers.specs.declared.serving.Attendance.TheVariants as attendances
use Rattle.connection_workers.specs.Arrivals.{links_of, taken_by}
use Rattle.connection_workers.specs.Workers.{ByLinks, IsAttended}
use Rattle.connection_workers.specs.declared.intake.Arrival.{Arrival}
use Rattle.turn_lock.specs.Fronts.{IsFrontOf}
use Rattle.shared_service.specs.declared.served.Served.{Served}
use Rattle.shared_service.specs.Calls.{IsCall}
use Rattle.shared_service.specs.Drawn.{DrewAll}
use Rattle.shared_service.specs.Owning.{by, is_connected}
use Rattle.keystore_server.specs.declared.end.ServeEnd.{ServeEnd}
use Rattle.keystore_server.specs.declared.end.ServeStatus.{ServeStatus}
use Rattle.keystore_server.specs.declared.end.ServeStatus.TheVariants as statuses
use Rattle.keystore_server.specs.declared.words.ServeForm.{ServeForm}

-- ---- statuses

-- the status of a service whose store was not opened
abbrev pub refusal_of : StoreFault → ServeStatus
refusal_of faults.Device = statuses.DiskFault
refusal_of (faults.Corrupted offset) = statuses.Corrupted offset
refusal_of faults.Memory = statuses.Memory

-- the status of one whose connections were attended so
abbrev pub status_of : Attendance → ServeStatus
status_of attendances.Served = statuses.Ok
status_of attendances.ListenFault = statuses.ListenFault
status_of attendances.Memory = statuses.Memory

-- whether a status tells a fault of the listener
abbrev pub is_listen_fault : ServeStatus → Bool
is_listen_fault statuses.ListenFault = true
is_listen_fault _ = false

-- a status that tells no store that is corrupted
abbrev pub IsCompleted : ServeStatus → Type 0
IsCompleted (statuses.Corrupted offset) = ⊥
IsCompleted _ = Unit {0}

-- ---- a store that is opened

module _ {D : Type 0} (d : DiskGhosts D) where
  -- The store was not opened. What it stood for it stands for at each moment, and nothing was written where it was no store, of which each image
  -- has wrong what the fault says; one of the older format may have been brought to areas. Over a disk that tells its content where all images
  -- stood for one lasting part nothing is wrong.
  pub record IsRefused (old new : D) (fault : StoreFault) : Type 0 where
    pub goes : Goes d old new (open_failed {T = Engine} (Err fault))
    pub brought : IsBrought d old new
    pub refused : LeavesRefused d old new (Err fault)
    pub reads : AllImages d new (λ image. OpensStore image (Err fault))
    pub finds : (part : Lasting) → AllImages d old (StandsFor part) → tells d old ≡ true → OpensFor part (Err fault)

-- ---- a worker

-- The pass of this number had seen the one front of the book; it made a call for an act, at a reading that the clock shows, that was
-- answered with this reply, and has seen the other by then.
abbrev pub IsCalled : (Reading → Type 0) → ℕ → List BookEntry → Act → Reply → List BookEntry → Type 0
IsCalled shows pass before act reply now =
    (reading : Reading) × (served : Served) × shows reading × (served.reply ≡ reply) × ∥ IsCall pass reading act before now served ∥₁

-- What a pass made in the book is what the connections of these links had it do, one behind another, from when it had seen nothing: each
-- of their requests when it was due, and the disconnect of each client that had come.
pub record HasWorked {L : Type 0} (g : LinkGhosts L) (shows : Reading → Type 0) (leaves : L → Option L → Type 0) (pass : ℕ) (links : List L) (book : List BookEntry) : Type 0 where
  pub front : List BookEntry
  pub visits : ByLinks g (IsCalled shows pass) leaves [] links front
  pub begins : IsFrontOf by pass front book

-- ---- a service

-- the counts of faults of a disk and an entropy
abbrev pub counts_of : {D N : Type 0} → DiskGhosts D → EntropyGhosts N → D → N → Counts
counts_of d n disk entropy = record { disk = d.fault_count disk; entropy = n.fault_count entropy }

-- the end of a service for which there was no memory
abbrev pub without_memory : {B D N : Type 0} → B → D → N → ServeEnd B D N
without_memory listener disk entropy = record { status = statuses.Memory; listener = listener; disk = disk; entropy = entropy; book = None }

module _ {B L D N : Type 0} (b : ListenerGhosts B L) (l : LinkGhosts L) (d : DiskGhosts D) (n : EntropyGhosts N) (shows : Reading → Type 0) (leaves : L → Option L → Type 0) where
  -- Connections were attended by one service, which was closed: each link that the listener gave, in the order in which it gave them, was
  -- served once, by the worker that took it, and nothing else was. Its book is legal over the lasting part at the start, and caused since
  -- the counts of the devices that it began with; the last counts in it are no greater than those of the devices at the end. The bytes
  -- that were drawn for its entries are, in their order, all that the entropy gave from the one that was handed in on. Each entry
  -- is of one of the workers that were asked for, each of which made what its connections had it do, and nothing else; where memory for
  -- them was wanting there is none. No pass left a client connected. Each image of the disk stands for what may be kept after it.
  pub record IsServed (setup : Setup) (form : ServeForm) (listener : B) (disk : D) (entropy : N) (end : ServeEnd B D N) : Type 0 where
    pub book : List BookEntry
    pub book_is : end.book ≡ Some book
    pub attendance : Attendance
    pub status_is : end.status ≡ status_of attendance
    pub arrivals : List (Arrival L)
    pub attended : IsAttended b form.connections (length arrivals) listener end.listener attendance
    pub legal : ∥ Legal setup (history_of (log_of book)) ∥₁
    pub caused : ∥ IsCaused (counts_of d n disk entropy) book ∥₁
    pub counts : AreLater (counts_after (counts_of d n disk entropy) (log_of book)) (counts_of d n end.disk end.entropy)
    pub drew : ∥ DrewAll n entropy end.entropy book ∥₁
    pub few : All (λ (e : BookEntry). by e < form.workers) book
    pub worked : (pass : ℕ) → pass < form.workers → HasWorked l shows leaves pass (links_of (taken_by pass arrivals)) book
    pub others : (pass : ℕ) → form.workers ≤ pass → taken_by pass arrivals ≡ []
    pub unserved : attendance ≡ attendances.Memory → book ≡ []
    pub parted : (pass : ℕ) → is_connected pass (log_of book) ≡ false
    pub holds : ∥ AllImages d end.disk (MayHold setup (history_of (log_of book))) ∥₁

  -- over a store that was opened connections were attended; or there was no memory for the service
  pub data ServesOn (setup : Setup) (form : ServeForm) (listener : B) (disk : D) (entropy : N) (end : ServeEnd B D N) : Type 0 where
    Attended : IsServed setup form listener disk entropy end → ServesOn setup form listener disk entropy end
    Wanting : end ≡ without_memory listener disk entropy → ServesOn setup form listener disk entropy end

  -- nothing was taken from the listener and nothing drawn, and there is no book
  pub record IsApart (listener : B) (entropy : N) (end : ServeEnd B D N) : Type 0 where
    pub listener_is : end.listener ≡ listener
    pub entropy_is : end.entropy ≡ entropy
    pub book_is : end.book ≡ None

  -- What the service came to: the store was opened, with 16 slots, and served over; or it was not opened, and nothing else was touched.
  pub data Serves (device : DeviceSecrets) (policy : List PolicyRow) (form : ServeForm) (listener : B) (disk : D) (entropy : N) (end : ServeEnd B D N) : Type 0 where
    Opened : (opened : D) (setup : Setup) → IsSetup setup device policy 16 → IsRead d setup disk opened → ServesOn setup form listener opened entropy end → Serves device policy form listener disk entropy end
    Refused : (fault : StoreFault) → IsRefused d disk end.disk fault → end.status ≡ refusal_of fault → IsApart listener entropy end → Serves device policy form listener disk entropy end
