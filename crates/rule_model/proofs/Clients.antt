-- Entries that leave the clients as they are.
use Rattle.std.proofs.Common.{◌≡◌, ℕ, Bool, true, false, refl}
use Rattle.rule_model.specs.declared.event.Act.{Act}
use Rattle.rule_model.specs.declared.event.Act.TheVariants.{Connect, Disconnect, Restart}
use Rattle.rule_model.specs.declared.event.Event.{Event}
use Rattle.rule_model.specs.declared.reply.Fields.{Fields}
use Rattle.rule_model.specs.declared.reply.Reply.{Reply}
use Rattle.rule_model.specs.declared.reply.Reply.TheVariants.{Done, Broken, Stopped}
use Rattle.rule_model.specs.Acts.{is_connect}
use Rattle.rule_model.specs.declared.entry_change.ClientChange.TheVariants.{SameClients}
use Rattle.rule_model.specs.Clients.{admitted_client, client_change}

-- the acts that change the clients where they are admitted
abbrev pub moves_clients : Act → Bool
moves_clients (Connect uid) = true
moves_clients Disconnect = true
moves_clients (Restart root) = true
moves_clients _ = false

none_moves : (act : Act) (caller : ℕ) (fields : Fields) → moves_clients act ≡ false → admitted_client act caller fields ≡ SameClients
none_moves (Connect uid) caller fields e = cc
none_moves Disconnect caller fields e = cc
none_moves (Restart root) caller fields e = cc
none_moves _ caller fields e = refl

pub same_clients : (event : Event) (reply : Reply) → moves_clients event.act ≡ false → client_change event reply ≡ SameClients
same_clients event (Done fields) e = none_moves event.act event.client fields e
same_clients event (Broken rule code) e = refl
same_clients event (Stopped code) e = refl

pub none_connects : (act : Act) → moves_clients act ≡ false → is_connect act ≡ false
none_connects (Connect uid) e = cc
none_connects _ e = refl
