-- Entries that leave the tickets as they are.
use Rattle.std.proofs.Common.{◌≡◌, Bool, true, false, refl}
use Rattle.rule_model.specs.declared.event.Act.{Act}
use Rattle.rule_model.specs.declared.event.Act.TheVariants.{EnterAad, EnterUpdate, EnterFinish, Leave, Restart}
use Rattle.rule_model.specs.declared.event.Event.{Event}
use Rattle.rule_model.specs.declared.reply.Fields.{Fields}
use Rattle.rule_model.specs.declared.reply.Reply.{Reply}
use Rattle.rule_model.specs.declared.reply.Reply.TheVariants.{Done, Broken, Stopped}
use Rattle.rule_model.specs.Acts.{is_enter}
use Rattle.rule_model.specs.declared.entry_change.TicketChange.TheVariants.{SameTickets}
use Rattle.rule_model.specs.Tickets.{admitted_ticket, stopped_ticket, ticket_change}

-- the acts that change the tickets
abbrev pub moves_tickets : Act → Bool
moves_tickets (EnterAad op input) = true
moves_tickets (EnterUpdate op input) = true
moves_tickets (EnterFinish op input signature) = true
moves_tickets (Leave ticket) = true
moves_tickets (Restart root) = true
moves_tickets _ = false

none_moves : (act : Act) (fields : Fields) → moves_tickets act ≡ false → admitted_ticket act fields ≡ SameTickets
none_moves (EnterAad op input) fields e = cc
none_moves (EnterUpdate op input) fields e = cc
none_moves (EnterFinish op input signature) fields e = cc
none_moves (Leave ticket) fields e = cc
none_moves (Restart root) fields e = cc
none_moves _ fields e = refl

none_stops : (act : Act) → moves_tickets act ≡ false → stopped_ticket act ≡ SameTickets
none_stops (Leave ticket) e = cc
none_stops _ e = refl

pub none_enters : (act : Act) → moves_tickets act ≡ false → is_enter act ≡ false
none_enters (EnterAad op input) e = cc
none_enters (EnterUpdate op input) e = cc
none_enters (EnterFinish op input signature) e = cc
none_enters _ e = refl

pub same_tickets : (event : Event) (reply : Reply) → moves_tickets event.act ≡ false → ticket_change event reply ≡ SameTickets
same_tickets event (Done fields) e = none_moves event.act fields e
same_tickets event (Broken rule code) e = refl
same_tickets event (Stopped code) e = none_stops event.act e
