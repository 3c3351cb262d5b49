-- What a restart leaves of the tables.
use Rattle.std.specs.Prelude.{◌≡◌, ℕ, Bool, true, false, List, [], Option, None}
use Rattle.tags.specs.declared.code.Code.{Code}
use Rattle.tags.specs.declared.code.Code.TheVariants.{ValueCorrupted}
use Rattle.ks_outside.specs.Images.{AllImages}
use Rattle.ks_outside.specs.declared.disk.Disk.{Ghosts}
use Rattle.journal_records.specs.LastingPart.{Lasting}
use Rattle.key_database.specs.Store.{StandsFor}
use Rattle.operation_slots.specs.Table.{IsEmpty, IsLater, capacity_of}
use Rattle.rule_model.specs.declared.reply.Reply.{Reply}
use Rattle.rule_model.specs.declared.reply.Reply.TheVariants.{Done, Broken, Stopped}
use Rattle.rule_model.specs.declared.entry_change.ClientChange.TheVariants.{AllGo}
use Rattle.rule_model.specs.Entries.{is_done}
use Rattle.rule_model.specs.Blobs.{root_given}
use Rattle.rule_model.specs.declared.event.Act.TheVariants.{Restart}
use Rattle.keystore_core.specs.declared.tables.Tables.{Tables}
use Rattle.live_tables.specs.Boot.{Restarts}
use Rattle.live_tables.specs.Clients.{ChangesClients, clients_given}
use Rattle.live_tables.specs.Operations.{most_operations, operations_given, rows_in}
use Rattle.live_tables.specs.Tickets.{out_in, tickets_given}

-- clients, operations, tickets and what lasts until a restart are gone, and the root of trust is the given one where one is given
pub record Forgets (root : Option (List ℕ)) (old new : Tables) : Type 0 where
  pub policy_is : new.policy ≡ old.policy
  pub keys_are : new.keys ≡ old.keys
  pub device_is : new.device ≡ record old.device { root = root_given (Restart root) old.device.root }
  pub goes : ChangesClients AllGo old.clients new.clients
  pub clients_are : clients_given new.clients ≡ clients_given old.clients
  pub rows : rows_in new.operations ≡ []
  pub operations_are : operations_given new.operations ≡ operations_given old.operations
  pub most_are : most_operations new.operations ≡ most_operations old.operations
  pub empty : IsEmpty new.slots (capacity_of old.slots)
  pub later : (next : ℕ) → IsLater new.slots next
  pub outs : (ticket : ℕ) → out_in new.tickets ticket ≡ None
  pub tickets_are : tickets_given new.tickets ≡ tickets_given old.tickets
  pub boot : Restarts old.boot new.boot

abbrev pub is_other_code : Code → Bool
is_other_code ValueCorrupted = true
is_other_code _ = false

-- whether a restart's reply says that what was read is not what is kept
abbrev pub is_other_store : Reply → Bool
is_other_store (Done fields) = false
is_other_store (Broken rule code) = false
is_other_store (Stopped code) = is_other_code code

-- a restart that is done has read the store: each image of the disk stands for this lasting part, which the engine keeps
abbrev pub HasRead : {D : Type 0} → Ghosts D → D → Lasting → Reply → Type 0
HasRead g disk kept reply = is_done reply ≡ true → AllImages g disk (StandsFor kept)
