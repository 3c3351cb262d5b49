-- The book of a service for threads: the entries of its history, each with the pass that made it and with how many calls had failed.
use Rattle.std.specs.Prelude.{◌≡◌, ℕ, ◌≤◌, Bool, true, false, ◌&&◌, ◌==◌, List, [], ◌∷◌, Option, Some, None, if◌then◌else◌, filter, reverse, unwrap_or}
use Rattle.ks_outside.specs.Faults.{Rises}
use Rattle.rule_model.specs.declared.entry.Entry.{Entry}
use Rattle.rule_model.specs.declared.entry.Entry.TheVariants.{Acted, Settling}
use Rattle.rule_model.specs.declared.event.Act.{Act}
use Rattle.rule_model.specs.declared.event.Act.TheVariants.{Connect, Leave}
use Rattle.rule_model.specs.declared.reply.Reply.{Reply}
use Rattle.rule_model.specs.declared.reply.Reply.TheVariants.{Done, Broken, Stopped}
use Rattle.rule_model.specs.Acts.{is_connect, is_enter}
use Rattle.rule_model.specs.Drawn.{is_entropy_fault}
use Rattle.rule_model.specs.Entries.{History, gives}
use Rattle.rule_model.specs.Settling.{is_disk_fault}
use Rattle.service_book.specs.declared.entry.BookEntry.{BookEntry}

-- A book has its oldest entry first, as passes see its fronts. A log has its newest first, as the rules read a history: what
-- stands behind an entry is what came before it.
abbrev pub log_of : List BookEntry → List BookEntry
log_of book = reverse book

-- the history of a log
abbrev pub history_of : List BookEntry → History
history_of [] = []
history_of (e ∷ log) = e.entry ∷ history_of log

-- what the pass of a number made
abbrev pub own : ℕ → List BookEntry → List BookEntry
own pass book = filter (λ (e : BookEntry). e.pass == pass) book

-- ---- who makes an entry

-- the client that a reply gives
abbrev pub client_in : Reply → Option ℕ
client_in (Done fields) = fields.client
client_in (Broken rule code) = None
client_in (Stopped code) = None

-- the client that an entry gives to its pass: an admitted connect gives one
abbrev pub client_given : Entry → Option ℕ
client_given (Settling settled) = None
client_given (Acted event drawn reply) = if is_connect event.act then client_in reply else None

abbrev pub later_client : Option ℕ → Option ℕ → Option ℕ
later_client None before = before
later_client (Some client) before = Some client

-- the client of a pass: the one that the last admitted connect among its own entries gave
abbrev pub client_of : ℕ → List BookEntry → Option ℕ
client_of pass [] = None
client_of pass (e ∷ log) = if e.pass == pass then later_client (client_given e.entry) (client_of pass log) else client_of pass log

-- the ticket that a reply gives
abbrev pub ticket_in : Reply → Option ℕ
ticket_in (Done fields) = fields.ticket
ticket_in (Broken rule code) = None
ticket_in (Stopped code) = None

-- whether an entry gives this ticket: an admitted enter gives one
abbrev pub gives_ticket : ℕ → Entry → Bool
gives_ticket ticket (Settling settled) = false
gives_ticket ticket (Acted event drawn reply) = is_enter event.act && gives (ticket_in reply) ticket

-- the pass whose enter gave this ticket
abbrev pub pass_of_ticket : ℕ → List BookEntry → Option ℕ
pass_of_ticket ticket [] = None
pass_of_ticket ticket (e ∷ log) = if gives_ticket ticket e.entry then Some e.pass else pass_of_ticket ticket log

-- A leave comes from the pass of its enter. Every other act is that of the pass's own client: 0 for a connect, and 0 where the pass
-- has none.
abbrev pub IsOwnAct : Act → ℕ → ℕ → List BookEntry → Type 0
IsOwnAct (Leave ticket) client pass log = pass_of_ticket ticket log ≡ Some pass
IsOwnAct (Connect uid) client pass log = client ≡ 0
IsOwnAct _ client pass log = client ≡ unwrap_or (client_of pass log) 0

-- ---- how many calls had failed

-- counts of faults of the disk and of the entropy
pub record Counts : Type 0 where
  pub disk : ℕ
  pub entropy : ℕ

abbrev pub before : BookEntry → Counts
before e = record { disk = e.disk_before; entropy = e.entropy_before }

abbrev pub behind : BookEntry → Counts
behind e = record { disk = e.disk_after; entropy = e.entropy_after }

-- no count fell
pub record AreLater (old now : Counts) : Type 0 where
  pub disk : old.disk ≤ now.disk
  pub entropy : old.entropy ≤ now.entropy

-- the counts at the end of a log that begins at these
abbrev pub counts_after : Counts → List BookEntry → Counts
counts_after start [] = start
counts_after start (e ∷ log) = behind e

-- an entry behind a settling is of the same step, and has its counts and its pass; every other entry begins a step, no earlier than
-- the one before it ended
pub record IsOfStep (settling e : BookEntry) : Type 0 where
  pub before_is : before e ≡ before settling
  pub behind_is : behind e ≡ behind settling
  pub pass_is : e.pass ≡ settling.pass

abbrev pub Follows : Counts → List BookEntry → BookEntry → Type 0
Follows start [] e = AreLater start (before e)
Follows start (last ∷ log) e = by_kind last.entry where
  by_kind : Entry → Type 0
  by_kind (Settling settled) = IsOfStep last e
  by_kind (Acted event drawn reply) = AreLater (behind last) (before e)

-- a reply that says that a device failed stands only where its count rose in that step
pub record HasCauses (e : BookEntry) (reply : Reply) : Type 0 where
  pub disk : is_disk_fault reply ≡ true → Rises e.disk_before e.disk_after
  pub entropy : is_entropy_fault reply ≡ true → Rises e.entropy_before e.entropy_after

abbrev pub IsMadeBy : BookEntry → Entry → List BookEntry → Type 0
IsMadeBy e (Settling settled) log = Unit {0}
IsMadeBy e (Acted event drawn reply) log = HasCauses e reply × IsOwnAct event.act event.client e.pass log

-- ---- a caused book

pub record IsCausedEntry (start : Counts) (log : List BookEntry) (e : BookEntry) : Type 0 where
  pub follows : Follows start log e
  pub rises : AreLater (before e) (behind e)
  pub made : IsMadeBy e e.entry log

-- A log is caused, from these counts on, where each entry is by those before it.
abbrev pub IsCausedLog : Counts → List BookEntry → Type 0
IsCausedLog start [] = Unit {0}
IsCausedLog start (e ∷ log) = IsCausedEntry start log e × IsCausedLog start log

abbrev pub IsCaused : Counts → List BookEntry → Type 0
IsCaused start book = IsCausedLog start (log_of book)
