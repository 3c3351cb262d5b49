-- The connected clients.
use Rattle.std.specs.Prelude.{ℕ, ◌==◌, [], ◌∷◌, Option, Some, None, if◌then◌else◌}
use Rattle.rule_model.specs.declared.entry.Entry.TheVariants.{Acted, Settling}
use Rattle.rule_model.specs.declared.entry_change.ClientChange.{ClientChange}
use Rattle.rule_model.specs.declared.entry_change.ClientChange.TheVariants.{SameClients, Comes, Goes, AllGo}
use Rattle.rule_model.specs.declared.event.Event.{Event}
use Rattle.rule_model.specs.declared.event.Act.{Act}
use Rattle.rule_model.specs.declared.event.Act.TheVariants.{Connect, Disconnect, Restart}
use Rattle.rule_model.specs.declared.facts.Caller.{Caller}
use Rattle.rule_model.specs.declared.reply.Fields.{Fields}
use Rattle.rule_model.specs.declared.reply.Reply.{Reply}
use Rattle.rule_model.specs.declared.reply.Reply.TheVariants.{Done, Broken, Stopped}
use Rattle.rule_model.specs.Entries.{History}

-- a client comes under the number that its reply gives
abbrev pub comes : Option ℕ → ℕ → ClientChange
comes None uid = SameClients
comes (Some client) uid = Comes client uid

-- A client comes by an admitted connect, whose reply gives its number, and goes by its own admitted disconnect. A restart
-- ends them all.
abbrev pub admitted_client : Act → ℕ → Fields → ClientChange
admitted_client (Connect uid) caller fields = comes fields.client uid
admitted_client Disconnect caller fields = Goes caller
admitted_client (Restart root) caller fields = AllGo
admitted_client _ caller fields = SameClients

-- only an admitted call changes the clients
abbrev pub client_change : Event → Reply → ClientChange
client_change event (Done fields) = admitted_client event.act event.client fields
client_change event (Broken rule code) = SameClients
client_change event (Stopped code) = SameClients

-- the uid of a client after a change, where it had this one before
abbrev pub uid_after : ClientChange → ℕ → Option ℕ → Option ℕ
uid_after SameClients client before = before
uid_after (Comes number uid) client before = if number == client then Some uid else before
uid_after (Goes gone) client before = if gone == client then None else before
uid_after AllGo client before = None

-- the uid of a client that is connected: that of its connect since the last restart, where no disconnect followed
abbrev pub uid_of : History → ℕ → Option ℕ
uid_of [] client = None
uid_of (Settling settled ∷ past) client = uid_of past client
uid_of (Acted event drawn reply ∷ past) client = uid_after (client_change event reply) client (uid_of past client)

-- who makes an event: the reading, the client's number, and its uid where it is connected
abbrev pub caller_of : History → Event → Caller
caller_of past event = record { reading = event.reading; client = event.client; uid = uid_of past event.client }
