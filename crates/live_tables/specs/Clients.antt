-- The table of the connected clients: what a look-up finds in it, and what a change of it is.
use Rattle.std.specs.Prelude.{◌≡◌, ℕ, Option}
use Rattle.std.specs.Ordering.{nat_cmp}
use Rattle.std.specs.BTreeMap.{get}
use Rattle.rule_model.specs.Acts.{is_connect}
use Rattle.rule_model.specs.declared.entry_change.ClientChange.{ClientChange}
use Rattle.rule_model.specs.Clients.{uid_after, uid_of}
use Rattle.rule_model.specs.Entries.{History, count_of}
use Rattle.live_tables.specs.declared.clients.Clients.{Clients}

-- the uid of a client that is in the table
abbrev pub uid_in : Clients → ℕ → Option ℕ
uid_in clients client = get nat_cmp clients.uids client

-- how many numbers the table gave to clients
abbrev pub clients_given : Clients → ℕ
clients_given clients = clients.made

-- a client comes, goes, or all go
abbrev pub ChangesClients : ClientChange → Clients → Clients → Type 0
ChangesClients change old new = (client : ℕ) → uid_in new client ≡ uid_after change client (uid_in old client)

pub record SameClients (old new : Clients) : Type 0 where
  pub uids : (client : ℕ) → uid_in new client ≡ uid_in old client
  pub given : clients_given new ≡ clients_given old

-- the table stands for a history
pub record ClientsStand (clients : Clients) (past : History) : Type 0 where
  pub uids : (client : ℕ) → uid_in clients client ≡ uid_of past client
  pub given : clients_given clients ≡ count_of is_connect past
