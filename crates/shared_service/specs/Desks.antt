-- When a desk stands for its book, and what a pass has seen of it.
use Rattle.std.specs.Prelude.{◌≡◌, ◌⊎◌, ℕ, ◌+◌, ◌≤◌, Bool, true, ◌||◌, List, ◌++◌, length, Option, Some, None, unwrap_or}
use Rattle.cipher_ops.specs.declared.job.Done.{Done as JobDone}
use Rattle.cipher_ops.specs.declared.job.Job.{Job}
use Rattle.ks_outside.specs.declared.disk.Disk.{Ghosts as DiskGhosts}
use Rattle.ks_outside.specs.declared.entropy.Entropy.{Ghosts as EntropyGhosts}
use Rattle.rule_model.specs.declared.event.Act.{Act}
use Rattle.rule_model.specs.declared.event.Act.TheVariants.{Leave}
use Rattle.rule_model.specs.declared.event.Event.{Event}
use Rattle.rule_model.specs.declared.field_sizes.FieldSizes.{FieldSizes}
use Rattle.rule_model.specs.declared.reply.Reply.{Reply}
use Rattle.rule_model.specs.Jobs.{HasDone, HasJob}
use Rattle.rule_model.specs.Legal.{Legal}
use Rattle.rule_model.specs.ReplyRooms.{sizes_of}
use Rattle.rule_model.specs.Setup.{Setup}
use Rattle.rule_model.specs.Acts.{is_asked}
use Rattle.keystore_core.specs.declared.engine.Engine.{Engine}
use Rattle.keystore_core.specs.Engine.{Stands, StoreStands}
use Rattle.keystore_core.specs.Outputs.{HasOutRoom}
use Rattle.service_book.specs.declared.entry.BookEntry.{BookEntry}
use Rattle.service_book.specs.Book.{AreLater, Counts, IsCaused, IsOwnAct, client_of, counts_after, history_of, log_of}
use Rattle.rule_model.specs.Acts.{is_leave}
use Rattle.rule_model.specs.Acts.{need_of}
use Rattle.service_book.specs.Limits.{MOST_ENTRIES, clients_in, tickets_in}
use Rattle.shared_service.specs.declared.name.ServiceId.{ServiceId}
use Rattle.shared_service.specs.Calls.{OneStep, entries_of}
use Rattle.shared_service.specs.Drawn.{DrewAll, DrewFirst}
use Rattle.shared_service.specs.Facts.{AllFacts}
use Rattle.shared_service.specs.Names.{IsSetupOf, counts_before, entropy_before}
use Rattle.shared_service.specs.Owning.{is_connected, is_parting, out_of}

-- the counts of faults of two devices
abbrev pub counts_of : {D N : Type 0} → DiskGhosts D → EntropyGhosts N → D → N → Counts
counts_of d n disk entropy = record { disk = d.fault_count disk; entropy = n.fault_count entropy }

-- the places of a book with those that are set aside: one for the disconnect of each connected client, and one for the leave of each
-- ticket that is out
abbrev pub weight : List BookEntry → ℕ
weight log = length log + clients_in log + tickets_in log

-- Engine, disk and entropy stand for a book: for the setups of the service the engine and its store stand for the book's history, the
-- book is caused, its last counts are no greater than those of the devices, and what it drew is what the entropy gave.
pub record IsDesk {D N : Type 0} (d : DiskGhosts D) (n : EntropyGhosts N) (name : ServiceId N) (engine : Engine) (disk : D) (entropy : N) (book : List BookEntry) : Type 0 where
  pub setup : Setup
  pub is_setup : IsSetupOf name setup
  pub stands : (s : Setup) → IsSetupOf name s → Stands s engine (history_of (log_of book))
  pub store : (s : Setup) → IsSetupOf name s → StoreStands d s engine disk (history_of (log_of book))
  pub caused : IsCaused (counts_before name) book
  pub counts : AreLater (counts_after (counts_before name) (log_of book)) (counts_of d n disk entropy)
  pub drew : DrewAll n (entropy_before name) entropy book
  pub facts : (s : Setup) → IsSetupOf name s → AllFacts s (log_of book)

-- what a pass has seen is legal and caused, the entropy gave what it drew, its client is its own, and no ticket of its own is out
pub record HasSeen {N : Type 0} (n : EntropyGhosts N) (name : ServiceId N) (pass : ℕ) (front : List BookEntry) (client : ℕ) (connected : Bool) : Type 0 where
  pub legal : (s : Setup) → IsSetupOf name s → Legal s (history_of (log_of front))
  pub caused : IsCaused (counts_before name) front
  pub drew : DrewFirst n (entropy_before name) front
  pub client_is : client ≡ unwrap_or (client_of pass (log_of front)) 0
  pub connected_is : connected ≡ is_connected pass (log_of front)
  pub idle : out_of pass (log_of front) ≡ None

-- the places that an act needs beside those that are set aside; a leave and the disconnect of a connected client need none
abbrev pub is_set_aside : Act → ℕ → List BookEntry → Bool
is_set_aside act pass log = is_leave act || is_parting act pass log

abbrev pub HasPlaces : Act → ℕ → List BookEntry → ℕ → Type 0
HasPlaces act pass log places = (is_set_aside act pass log ≡ true) ⊎ ((weight log + need_of act ≤ places) × (weight log + need_of act ≤ MOST_ENTRIES))

-- a pass asks for an act while no ticket of its own is out, or brings its own ticket back
abbrev pub ComesInTurn : Act → ℕ → List BookEntry → Type 0
ComesInTurn (Leave ticket) pass log = out_of pass log ≡ Some ticket
ComesInTurn act pass log = (is_asked act ≡ true) × (out_of pass log ≡ None)

-- A pass may make an event over a log: it is its own and comes in its turn, a leave has what its job came back with, and there is room
-- for the copy of each reply.
pub record MayMake {N : Type 0} (name : ServiceId N) (log : List BookEntry) (pass : ℕ) (event : Event) (room : FieldSizes) (back : Option JobDone) : Type 0 where
  pub out : ℕ
  pub few : out ≤ 1048656
  pub room_is : room ≡ sizes_of event.act out
  pub turn : ComesInTurn event.act pass log
  pub own : IsOwnAct event.act event.client pass log
  pub back_is : (s : Setup) → IsSetupOf name s → HasDone s (history_of log) event.act back
  pub enough : (s : Setup) → IsSetupOf name s → HasOutRoom s (history_of log) event.act out

-- what a step made of the book, with the job of an enter
pub record HasMade {N : Type 0} (name : ServiceId N) (pass : ℕ) (event : Event) (old new : List BookEntry) (reply : Reply) (job : Option Job) : Type 0 where
  pub s : OneStep
  pub event_is : s.event ≡ event
  pub reply_is : s.reply ≡ reply
  pub grown : new ≡ old ++ entries_of pass s
  pub job_is : (setup : Setup) → IsSetupOf name setup → HasJob setup (history_of (log_of new)) reply job
