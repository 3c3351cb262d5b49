-- The table of the works that are out: what a look-up finds in it, and what a change of it is.
use Rattle.std.specs.Prelude.{◌≡◌, ℕ, ◌+◌, ◌≤◌, true, ◌==◌, length, Option, Some, None, is_some, if◌then◌else◌}
use Rattle.std.specs.BTreeMap.{get}
use Rattle.std.specs.Option.{option_flatten}
use Rattle.std.specs.Ordering.{nat_cmp}
use Rattle.tags.specs.declared.limits.TheConstants.{OPERATION_BYTES}
use Rattle.cipher_ops.specs.declared.room.Work.{Work}
use Rattle.rule_model.specs.Kept.{operation_at}
use Rattle.rule_model.specs.Acts.{is_enter}
use Rattle.rule_model.specs.Entries.{History, count_of}
use Rattle.rule_model.specs.declared.operation.Open.{Open}
use Rattle.rule_model.specs.Setup.{Setup}
use Rattle.rule_model.specs.StepFacts.{brought_by, input_of}
use Rattle.rule_model.specs.declared.operation.Entered.{Entered}
use Rattle.rule_model.specs.Tickets.{ticket_at}
use Rattle.live_tables.specs.declared.tickets.Out.{Out}
use Rattle.live_tables.specs.declared.tickets.Tickets.{Tickets}

-- the place of a ticket: a place without a work is room for one
abbrev pub place_of : Tickets → ℕ → Option (Option Out)
place_of tickets number = get nat_cmp tickets.places number

-- the work that is out under a ticket
abbrev pub out_in : Tickets → ℕ → Option Out
out_in tickets number = option_flatten (place_of tickets number)

-- how many numbers the table gave to tickets
abbrev pub tickets_given : Tickets → ℕ
tickets_given tickets = tickets.given

-- the table has taken room for the next ticket
abbrev pub HasRoomForTicket : Tickets → Type 0
HasRoomForTicket tickets = is_some (place_of tickets (tickets_given tickets + 1)) ≡ true

-- a work goes out under the next ticket
pub record GivesTicket (out : Out) (old new : Tickets) : Type 0 where
  pub outs : (ticket : ℕ) → out_in new ticket ≡ (if tickets_given old + 1 == ticket then Some out else out_in old ticket)
  pub given : tickets_given new ≡ tickets_given old + 1

-- a work comes back
pub record TakesTicket (number : ℕ) (old new : Tickets) : Type 0 where
  pub outs : (ticket : ℕ) → out_in new ticket ≡ (if number == ticket then None else out_in old ticket)
  pub given : tickets_given new ≡ tickets_given old

pub record SameTickets (old new : Tickets) : Type 0 where
  pub outs : (ticket : ℕ) → out_in new ticket ≡ out_in old ticket
  pub given : tickets_given new ≡ tickets_given old

-- what is kept of a work that is out is what the rules read of it
pub record IsOut (out : Out) (entered : Entered) : Type 0 where
  pub op : out.op ≡ entered.op
  pub brought : out.brought ≡ brought_by entered.work

abbrev pub SameOut : Option Out → Option Entered → Type 0
SameOut None None = Unit {0}
SameOut (Some out) (Some entered) = IsOut out entered
SameOut None (Some entered) = ⊥
SameOut (Some out) None = ⊥

-- the operation of a work that is out is busy with it, and has room for what it brought
pub record IsBusyWith (ticket : ℕ) (work : Work) (o : Open) : Type 0 where
  pub busy : o.ticket ≡ Some ticket
  pub within : length o.aad + length o.text + length (input_of work) ≤ OPERATION_BYTES

abbrev pub BusyWith : ℕ → Work → Option Open → Type 0
BusyWith ticket work None = ⊥
BusyWith ticket work (Some o) = IsBusyWith ticket work o

-- the table stands for a history
pub record TicketsStand (setup : Setup) (tickets : Tickets) (past : History) : Type 0 where
  pub outs : (ticket : ℕ) → SameOut (out_in tickets ticket) (ticket_at past ticket)
  pub given : tickets_given tickets ≡ count_of is_enter past
  pub busy : (ticket : ℕ) (entered : Entered) → ticket_at past ticket ≡ Some entered → BusyWith ticket entered.work (operation_at setup past entered.op)
