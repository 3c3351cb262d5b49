-- The works that entered an operation and did not come back yet, each under the ticket of its enter.
use Rattle.std.specs.Prelude.{ℕ, ◌+◌, ◌==◌, [], ◌∷◌, Option, Some, None, if◌then◌else◌}
use Rattle.cipher_ops.specs.declared.room.Work.{Work}
use Rattle.cipher_ops.specs.declared.room.Work.TheVariants.{Aad, Text, Last}
use Rattle.rule_model.specs.declared.entry.Entry.TheVariants.{Acted, Settling}
use Rattle.rule_model.specs.declared.event.Event.{Event}
use Rattle.rule_model.specs.declared.event.Act.{Act}
use Rattle.rule_model.specs.declared.event.Act.TheVariants.{EnterAad, EnterUpdate, EnterFinish, Leave, Restart}
use Rattle.rule_model.specs.declared.entry_change.TicketChange.{TicketChange}
use Rattle.rule_model.specs.declared.entry_change.TicketChange.TheVariants.{SameTickets, GoesOut, ComesBack, AllGone}
use Rattle.rule_model.specs.declared.operation.Entered.{Entered}
use Rattle.rule_model.specs.declared.reply.Fields.{Fields}
use Rattle.rule_model.specs.declared.reply.Reply.{Reply}
use Rattle.rule_model.specs.declared.reply.Reply.TheVariants.{Done, Broken, Stopped}
use Rattle.rule_model.specs.Acts.{is_enter}
use Rattle.rule_model.specs.Entries.{History, count_of}

-- an admitted enter sends its work out under a ticket
abbrev pub goes_out : Option ℕ → ℕ → Work → TicketChange
goes_out None op work = SameTickets
goes_out (Some ticket) op work = GoesOut ticket (record { op = op; work = work })

-- a ticket goes out by an admitted enter, whose reply gives its number
abbrev pub admitted_ticket : Act → Fields → TicketChange
admitted_ticket (EnterAad op input) fields = goes_out fields.ticket op (Aad input)
admitted_ticket (EnterUpdate op input) fields = goes_out fields.ticket op (Text input)
admitted_ticket (EnterFinish op input signature) fields = goes_out fields.ticket op (Last input signature)
admitted_ticket (Leave ticket) fields = ComesBack ticket
admitted_ticket (Restart root) fields = AllGone
admitted_ticket _ fields = SameTickets

-- a leave whose output is refused brings its ticket back too
abbrev pub stopped_ticket : Act → TicketChange
stopped_ticket (Leave ticket) = ComesBack ticket
stopped_ticket _ = SameTickets

-- a ticket is given by an admitted enter, and comes back by its leave, also where that is refused for its output
abbrev pub ticket_change : Event → Reply → TicketChange
ticket_change event (Done fields) = admitted_ticket event.act fields
ticket_change event (Broken rule code) = SameTickets
ticket_change event (Stopped code) = stopped_ticket event.act

-- the work of a ticket after a change, where it was this one before
abbrev pub ticket_after : TicketChange → ℕ → Option Entered → Option Entered
ticket_after SameTickets ticket before = before
ticket_after (GoesOut number entered) ticket before = if number == ticket then Some entered else before
ticket_after (ComesBack number) ticket before = if number == ticket then None else before
ticket_after AllGone ticket before = None

-- the work that is out under a ticket: that of an admitted enter since the last restart which no leave brought back
abbrev pub ticket_at : History → ℕ → Option Entered
ticket_at [] ticket = None
ticket_at (Settling settled ∷ past) ticket = ticket_at past ticket
ticket_at (Acted event drawn reply ∷ past) ticket = ticket_after (ticket_change event reply) ticket (ticket_at past ticket)

-- the number that the next ticket takes
abbrev pub next_ticket : History → ℕ
next_ticket past = count_of is_enter past + 1
