-- What leaves the tables: a client with its operations, and an operation.
use Rattle.std.specs.Prelude.{◌≡◌, ℕ}
use Rattle.operation_slots.specs.Table.{FindsNoMore, KeepsLater, TakesOut, TakesOutOf}
use Rattle.rule_model.specs.declared.entry_change.ClientChange.TheVariants.{Goes}
use Rattle.keystore_core.specs.declared.tables.Tables.{Tables}
use Rattle.live_tables.specs.Boot.{SameBoot}
use Rattle.live_tables.specs.Clients.{ChangesClients, SameClients, clients_given}
use Rattle.keystore_core.specs.Keys.{SameKeys}
use Rattle.live_tables.specs.Operations.{DropsRow, DropsRowsOf}
use Rattle.live_tables.specs.Tickets.{SameTickets}

-- a client is gone, and so are its operations
pub record EndsClient (client : ℕ) (old new : Tables) : Type 0 where
  pub goes : ChangesClients (Goes client) old.clients new.clients
  pub given : clients_given new.clients ≡ clients_given old.clients
  pub keys : SameKeys old new
  pub rows : DropsRowsOf client old.operations new.operations
  pub slots : TakesOutOf old.slots new.slots client
  pub fresh : FindsNoMore old.slots new.slots
  pub later : KeepsLater old.slots new.slots
  pub tickets : SameTickets old.tickets new.tickets
  pub boot : SameBoot old.boot new.boot

-- one operation is closed
pub record ClosesOne (op : ℕ) (old new : Tables) : Type 0 where
  pub clients : SameClients old.clients new.clients
  pub keys : SameKeys old new
  pub rows : DropsRow op old.operations new.operations
  pub slots : TakesOut old.slots new.slots op
  pub fresh : FindsNoMore old.slots new.slots
  pub later : KeepsLater old.slots new.slots
  pub tickets : SameTickets old.tickets new.tickets
  pub boot : SameBoot old.boot new.boot
