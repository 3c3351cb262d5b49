-- What holds of every log of a service, whose passes make one call after another: the newest entry stands first.
use Rattle.std.specs.Prelude.{◌≡◌, ◌⊎◌, ℕ, ◌+◌, ◌≤◌, ◌==◌, Bool, true, false, List, [], ◌∷◌, length, Option, Some, None, is_some, if◌then◌else◌}
use Rattle.std.specs.List.{list_any}
use Rattle.rule_model.specs.Acts.{is_connect, is_disconnect, is_enter, is_leave}
use Rattle.rule_model.specs.Clients.{uid_of}
use Rattle.rule_model.specs.Entries.{admits, count_of}
use Rattle.rule_model.specs.Jobs.{Stays}
use Rattle.rule_model.specs.Kept.{open_of}
use Rattle.rule_model.specs.declared.operation.Open.{Open}
use Rattle.rule_model.specs.Setup.{Setup}
use Rattle.rule_model.specs.declared.operation.Entered.{Entered}
use Rattle.rule_model.specs.Tickets.{ticket_at}
use Rattle.service_book.specs.declared.entry.BookEntry.{BookEntry}
use Rattle.service_book.specs.Book.{client_given, client_of, history_of, pass_of_ticket}
use Rattle.service_book.specs.Limits.{count, is_of}
use Rattle.shared_service.specs.Owning.{is_connected, out_of}

abbrev pub has : ℕ → List ℕ → Bool
has number numbers = list_any (λ n. n == number) numbers

-- whether an entry gives this number to its pass's client
abbrev pub is_given : Option ℕ → ℕ → Bool
is_given None client = false
is_given (Some given) client = given == client

-- the pass whose connect gave this number
abbrev pub pass_of_client : ℕ → List BookEntry → Option ℕ
pass_of_client client [] = None
pass_of_client client (e ∷ log) = if is_given (client_given e.entry) client then Some e.pass else pass_of_client client log

-- ---- tickets

-- the numbers of all that are out, of which there are no more than were given less those that came back
pub record CoversTickets (out : ℕ → Option ℕ) (enters leaves : ℕ) : Type 0 where
  pub numbers : List ℕ
  pub few : leaves + length numbers ≤ enters
  pub all : (pass ticket : ℕ) → out pass ≡ Some ticket → has ticket numbers ≡ true

-- the ticket that is out with each pass, whether a ticket is out, whose it is, how many were given, and how many entries gave one and
-- brought one back
pub record TicketsFit (out : ℕ → Option ℕ) (at : ℕ → Bool) (owner : ℕ → Option ℕ) (given enters leaves : ℕ) : Type 0 where
  -- what is out with a pass is a ticket of its own, and is out
  pub own_is : (pass ticket : ℕ) → out pass ≡ Some ticket → owner ticket ≡ Some pass
  pub out_is : (pass ticket : ℕ) → out pass ≡ Some ticket → at ticket ≡ true
  -- what is out is out with the pass whose ticket it is
  pub known : (ticket : ℕ) → at ticket ≡ true → is_some (owner ticket) ≡ true
  pub whole : (pass ticket : ℕ) → at ticket ≡ true → owner ticket ≡ Some pass → out pass ≡ Some ticket
  -- no ticket has a number that was not given
  pub few : (pass ticket : ℕ) → owner ticket ≡ Some pass → ticket ≤ given
  pub covers : CoversTickets out enters leaves

abbrev pub is_out : List BookEntry → ℕ → Bool
is_out log ticket = is_some (ticket_at (history_of log) ticket)

abbrev pub TicketFacts : List BookEntry → Type 0
TicketFacts log = TicketsFit (λ pass. out_of pass log) (is_out log) (λ ticket. pass_of_ticket ticket log) (count_of is_enter (history_of log)) (count (admits is_enter) log) (count (is_of is_leave) log)

-- ---- clients

-- the numbers of all connected clients, of which there are no more than came less those that went
pub record CoversClients (client : ℕ → Option ℕ) (connected : ℕ → Bool) (connects disconnects : ℕ) : Type 0 where
  pub numbers : List ℕ
  pub few : disconnects + length numbers ≤ connects
  pub all : (pass number : ℕ) → connected pass ≡ true → client pass ≡ Some number → has number numbers ≡ true

-- the client of each pass and whether it is connected, whether a client is connected, whose it is, how many were given, and how many
-- entries brought one and ended one
pub record ClientsFit (client : ℕ → Option ℕ) (connected : ℕ → Bool) (there : ℕ → Bool) (owner : ℕ → Option ℕ) (given connects disconnects : ℕ) : Type 0 where
  -- the client of a pass has a number that its own connect gave
  pub own_is : (pass number : ℕ) → client pass ≡ Some number → owner number ≡ Some pass
  -- it is connected as the rules see it, where it is as the pass sees it
  pub has_client : (pass : ℕ) → connected pass ≡ true → is_some (client pass) ≡ true
  pub seen : (pass number : ℕ) → client pass ≡ Some number → there number ≡ connected pass
  -- numbers count from 1, and none is there that was not given
  pub few : (pass number : ℕ) → owner number ≡ Some pass → number ≤ given
  pub nobody : there 0 ≡ false
  pub none_zero : owner 0 ≡ None
  pub covers : CoversClients client connected connects disconnects

abbrev pub is_there : List BookEntry → ℕ → Bool
is_there log client = is_some (uid_of (history_of log) client)

abbrev pub ClientFacts : List BookEntry → Type 0
ClientFacts log = ClientsFit (λ pass. client_of pass log) (λ pass. is_connected pass log) (is_there log) (λ client. pass_of_client client log)
    (count_of is_connect (history_of log)) (count (admits is_connect) log) (count (admits is_disconnect) log)

-- ---- operations

-- an operation on which a work is out waits for a ticket that is out, of a pass whose client has the operation
abbrev pub IsWaitedFor : List BookEntry → Open → Option ℕ → Type 0
IsWaitedFor log o None = Unit {0}
IsWaitedFor log o (Some ticket) =
    ((entered : Entered) → ticket_at (history_of log) ticket ≡ Some entered → entered.op ≡ o.operation.number) × (is_some (ticket_at (history_of log) ticket) ≡ true)
    × ((pass : ℕ) → pass_of_ticket ticket log ≡ Some pass → (o.operation.client ≡ 0) ⊎ (pass_of_client o.operation.client log ≡ Some pass))

abbrev pub AllWaitedFor : List BookEntry → List Open → Type 0
AllWaitedFor log [] = Unit {0}
AllWaitedFor log (o ∷ opened) = IsWaitedFor log o o.ticket × AllWaitedFor log opened

-- ---- all of it

-- a step left the operations of the works that are out as they were
abbrev pub IsStill : Setup → List BookEntry → Type 0
IsStill setup [] = Unit {0}
IsStill setup (e ∷ log) = Stays setup (history_of log) (history_of (e ∷ log))

pub record Facts (setup : Setup) (log : List BookEntry) : Type 0 where
  pub tickets : TicketFacts log
  pub clients : ClientFacts log
  pub busy : AllWaitedFor log (open_of setup (history_of log))
  pub still : IsStill setup log

-- at each moment
abbrev pub AllFacts : Setup → List BookEntry → Type 0
AllFacts setup [] = Facts setup []
AllFacts setup (e ∷ log) = Facts setup (e ∷ log) × AllFacts setup log
