-- The tables after a settling.
use Rattle.std.proofs.Common.{◌≡◌, false, ◌∷◌, Ok, ◌∙◌, arith}
use Rattle.tags.specs.declared.settled.Settled.{Settled}
use Rattle.tags.specs.declared.settled.Settled.TheVariants.{Kept, Lost}
use Rattle.journal_records.specs.declared.change.Change.{Change}
use Rattle.key_database.specs.declared.database.KeyDatabase.{KeyDatabase}
use Rattle.key_database.specs.Stands.{SettledBy, is_unsettled}
use Rattle.rule_model.specs.declared.entry.Entry.TheVariants.{Settling}
use Rattle.rule_model.specs.Entries.{History}
use Rattle.rule_model.specs.Setup.{Setup}
use Rattle.keystore_core.specs.declared.tables.Tables.{Tables}
use Rattle.keystore_core.specs.Keys.{KeysStand, WaitsFor}
use Rattle.keystore_core.specs.Tables.{TablesStand}

settled_keys : (setup : Setup) (past : History) (old : Tables) (keys : KeyDatabase) (settled : Settled) (change : Change) → KeysStand setup old past → WaitsFor setup old.keys past change
    → SettledBy change (Ok settled) old.keys keys → is_unsettled keys ≡ false → KeysStand setup (record old { keys = keys }) (Settling settled ∷ past)
settled_keys setup past old keys Kept change stands waits by idle = record {
  device_is = stands.device_is;
  policy_is = stands.policy_is;
  lasting_is = by.0 ∙ waits.made_is;
  settled_is = idle;
  waiting = λ e. absurd cc;
}
settled_keys setup past old keys Lost change stands waits by idle = record {
  device_is = stands.device_is;
  policy_is = stands.policy_is;
  lasting_is = by.0 ∙ waits.lost_is;
  settled_is = idle;
  waiting = λ e. absurd cc;
}

-- all else is as it was: a settling moves no client, operation, ticket, nor what lasts until the next restart
pub settled_tables : (setup : Setup) (past : History) (old : Tables) (keys : KeyDatabase) (settled : Settled) (change : Change) → TablesStand setup old past → WaitsFor setup old.keys past change
    → SettledBy change (Ok settled) old.keys keys → is_unsettled keys ≡ false → TablesStand setup (record old { keys = keys }) (Settling settled ∷ past)
settled_tables setup past old keys settled change stands waits by idle = record {
  clients = record { uids = stands.clients.uids; given = stands.clients.given };
  keys = settled_keys setup past old keys settled change stands.keys waits by idle;
  operations = record { rows = stands.operations.rows; given = stands.operations.given; most = stands.operations.most };
  slots = record {
    slots_are = stands.slots.slots_are;
    capacity_is = stands.slots.capacity_is;
    fresh = stands.slots.fresh;
    later = λ next l. stands.slots.later next (omega (arith, l));
  };
  tickets = record { outs = stands.tickets.outs; given = stands.tickets.given; busy = stands.tickets.busy };
  boot = record {
    device = record { users = stands.boot.device.users; early = stands.boot.device.early };
    tokens = record { tokens_are = stands.boot.tokens.tokens_are; key_is = stands.boot.tokens.key_is };
    begins = stands.boot.begins;
  };
}
