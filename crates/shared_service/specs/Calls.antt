-- What a call adds to the book, and what its pass has seen by then.
use Rattle.std.specs.Prelude.{◌≡◌, ◌≢◌, ◌⊎◌, ◌+◌, ℕ, true, false, List, [], ◌∷◌, ◌++◌, length, Option, Some, None}
use Rattle.ks_outside.specs.declared.clock.Reading.{Reading}
use Rattle.tags.specs.declared.code.Code.TheVariants.{MemoryAllocationFailed, NoTicket, RunFull}
use Rattle.tags.specs.declared.settled.Settled.{Settled}
use mathlib.Core.List.{IsPrefix}
use Rattle.turn_lock.specs.Fronts.{IsFrontOf}
use Rattle.turn_lock.specs.Rule as lock
use Rattle.rule_model.specs.declared.entry.Entry.{Entry}
use Rattle.rule_model.specs.declared.entry.Entry.TheVariants.{Acted, Settling}
use Rattle.rule_model.specs.declared.event.Act.{Act}
use Rattle.rule_model.specs.declared.event.Act.TheVariants.{Leave}
use Rattle.rule_model.specs.declared.event.Event.{Event}
use Rattle.rule_model.specs.declared.reply.Reply.{Reply}
use Rattle.rule_model.specs.declared.reply.Reply.TheVariants.{Stopped}
use Rattle.rule_model.specs.Acts.{is_enter}
use Rattle.rule_model.specs.Entries.{is_done}
use Rattle.service_book.specs.declared.entry.BookEntry.{BookEntry}
use Rattle.service_book.specs.Book.{Counts, log_of, ticket_in}
use Rattle.service_book.specs.Limits.{passes_limit}
use Rattle.shared_service.specs.declared.served.Served.{Served}
use Rattle.shared_service.specs.Owning.{by, event_for, is_parting}

-- one step of the engine, with the counts of faults before and behind it
pub record OneStep : Type 0 where
  pub settled : Option Settled
  pub event : Event
  pub drawn : List ℕ
  pub reply : Reply
  pub before : Counts
  pub behind : Counts

abbrev pub entry_by : ℕ → Counts → Counts → Entry → BookEntry
entry_by pass before behind entry = record {
  pass = pass;
  entry = entry;
  disk_before = before.disk;
  disk_after = behind.disk;
  entropy_before = before.entropy;
  entropy_after = behind.entropy;
}

abbrev pub settling_by : ℕ → Counts → Counts → Option Settled → List BookEntry
settling_by pass before behind None = []
settling_by pass before behind (Some settled) = entry_by pass before behind (Settling settled) ∷ []

-- the entries of a step: a settling, where there was one, and the event with its reply
abbrev pub entries_of : ℕ → OneStep → List BookEntry
entries_of pass s =
    settling_by pass s.before s.behind s.settled ++ entry_by pass s.before s.behind (Acted s.event s.drawn s.reply) ∷ []

abbrev pub leave_of : Event → ℕ → Event
leave_of event ticket = record event { act = Leave ticket }

-- A call adds one step; or an enter that is admitted, and the leave of its ticket, between which there are entries of others. The book
-- was `log` before the first of them and ends with the last, whose reply it is; and these are what the call adds.
pub data Adds (pass : ℕ) (event : Event) (log book more : List BookEntry) (reply : Reply) : Type 0 where
  Once : (s : OneStep) → s.event ≡ event → s.reply ≡ reply → ticket_in reply ≡ None → more ≡ entries_of pass s → book ≡ log ++ more → Adds pass event log book more reply
  Twice : (enter leave : OneStep) (ticket : ℕ) (others : List BookEntry) → is_enter event.act ≡ true → enter.event ≡ event → ticket_in enter.reply ≡ Some ticket → leave.event ≡ leave_of event ticket → leave.settled ≡ None
      → leave.reply ≡ reply → reply ≢ Stopped MemoryAllocationFailed → more ≡ entries_of pass enter ++ entries_of pass leave
      → book ≡ (log ++ entries_of pass enter) ++ (others ++ entries_of pass leave) → Adds pass event log book more reply

-- A call that adds entries. The front goes on to the end of its last entry, with these as the only ones more of the pass's own. No limit is
-- passed over the entries before its first, unless it is the disconnect of a connected client, which is admitted.
pub record IsRecorded (pass : ℕ) (reading : Reading) (act : Act) (old new : List BookEntry) (served : Served) : Type 0 where
  pub log : List BookEntry
  pub more : List BookEntry
  pub begins : IsFrontOf by pass old log
  pub goes_on : IsPrefix old new
  pub grown : lock.own by pass new ≡ lock.own by pass old ++ more
  pub adds : Adds pass (event_for reading act pass (log_of log)) log new more served.reply
  pub within : (is_parting act pass (log_of log) ≡ true) ⊎ (passes_limit act (log_of log) ≡ false)
  pub first_is : served.first ≡ length log + 1
  pub last_is : served.last ≡ length new
  pub has_ticket : served.reply ≢ Stopped NoTicket
  pub parts : is_parting act pass (log_of log) ≡ true → is_done served.reply ≡ true

-- A call that passes a limit adds nothing. It does so over the front that its pass leaves with, which the lock makes the whole book at
-- the call's turn; no clause of a call can name that book.
pub record IsFull (pass : ℕ) (act : Act) (old new : List BookEntry) (served : Served) : Type 0 where
  pub begins : IsFrontOf by pass old new
  pub passes : passes_limit act (log_of new) ≡ true
  pub stays : is_parting act pass (log_of new) ≡ false
  pub is_full : served.reply ≡ Stopped RunFull
  pub none_first : served.first ≡ 0
  pub none_last : served.last ≡ 0

-- A call for which memory is wanting before its step adds nothing. Over the front that its pass leaves with, as above, it passes no
-- limit.
pub record IsPoor (pass : ℕ) (act : Act) (old new : List BookEntry) (served : Served) : Type 0 where
  pub begins : IsFrontOf by pass old new
  pub within : passes_limit act (log_of new) ≡ false
  pub stays : is_parting act pass (log_of new) ≡ false
  pub is_want : served.reply ≡ Stopped MemoryAllocationFailed
  pub none_first : served.first ≡ 0
  pub none_last : served.last ≡ 0

pub data IsCall (pass : ℕ) (reading : Reading) (act : Act) (old new : List BookEntry) (served : Served) : Type 0 where
  Recorded : IsRecorded pass reading act old new served → IsCall pass reading act old new served
  Full : IsFull pass act old new served → IsCall pass reading act old new served
  Poor : IsPoor pass act old new served → IsCall pass reading act old new served
