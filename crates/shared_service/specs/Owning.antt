-- What a pass knows of itself by its own entries, the newest first.
use Rattle.std.specs.Prelude.{ℕ, Bool, true, false, ◌&&◌, ◌==◌, List, [], ◌∷◌, Option, Some, None, if◌then◌else◌, unwrap_or}
use Rattle.rule_model.specs.declared.entry.Entry.{Entry}
use Rattle.rule_model.specs.declared.entry.Entry.TheVariants.{Acted, Settling}
use Rattle.rule_model.specs.declared.event.Act.{Act}
use Rattle.rule_model.specs.declared.event.Act.TheVariants.{Connect}
use Rattle.rule_model.specs.declared.event.Event.{Event}
use Rattle.rule_model.specs.Acts.{is_connect, is_disconnect, is_enter, is_leave}
use Rattle.rule_model.specs.Entries.{admits}
use Rattle.ks_outside.specs.declared.clock.Reading.{Reading}
use Rattle.service_book.specs.declared.entry.BookEntry.{BookEntry}
use Rattle.service_book.specs.Book.{client_of, ticket_in}
use Rattle.service_book.specs.Limits.{is_of}

-- the number of the entry's pass
abbrev pub by : BookEntry → ℕ
by e = e.pass

-- Whether the client of a pass is connected: it came by an admitted connect of the pass, and no admitted disconnect of the pass
-- followed.
abbrev pub is_connected : ℕ → List BookEntry → Bool
is_connected pass [] = false
is_connected pass (e ∷ log) =
    if e.pass == pass then (if admits is_connect e.entry then true else if admits is_disconnect e.entry then false else is_connected pass log) else is_connected pass log

-- the ticket that a reply to an enter gives
abbrev pub ticket_given : Entry → Option ℕ
ticket_given (Settling settled) = None
ticket_given (Acted event drawn reply) = if is_enter event.act then ticket_in reply else None

abbrev pub later_ticket : Option ℕ → Option ℕ → Option ℕ
later_ticket None before = before
later_ticket (Some ticket) before = Some ticket

-- the ticket that is out with a pass: that of its last admitted enter, where no leave of the pass followed
abbrev pub out_of : ℕ → List BookEntry → Option ℕ
out_of pass [] = None
out_of pass (e ∷ log) = if e.pass == pass then (if is_of is_leave e.entry then None else later_ticket (ticket_given e.entry) (out_of pass log)) else out_of pass log

-- the client of an act that a client makes: 0 for a connect
abbrev pub client_by : ℕ → Act → ℕ
client_by client (Connect uid) = 0
client_by client _ = client

-- the event of it
abbrev pub event_by : Reading → ℕ → Act → Event
event_by reading client act = record { reading = reading; client = client_by client act; act = act }

-- the client of a pass's act: its own, and 0 for a connect and where it has none
abbrev pub client_for : Act → ℕ → List BookEntry → ℕ
client_for act pass log = client_by (unwrap_or (client_of pass log) 0) act

-- the event that a pass makes of an act
abbrev pub event_for : Reading → Act → ℕ → List BookEntry → Event
event_for reading act pass log = event_by reading (unwrap_or (client_of pass log) 0) act

-- the disconnect of a connected client, which no limit and no want of memory stops
abbrev pub is_parting : Act → ℕ → List BookEntry → Bool
is_parting act pass log = is_disconnect act && is_connected pass log
