-- What a call changes of its pass's client.
use Rattle.std.specs.Prelude.{ℕ, Bool, true, false, ◌&&◌, Option, if◌then◌else◌, unwrap_or}
use Rattle.rule_model.specs.declared.event.Act.{Act}
use Rattle.rule_model.specs.declared.event.Act.TheVariants as acts
use Rattle.rule_model.specs.declared.reply.Reply.{Reply}
use Rattle.rule_model.specs.declared.reply.Reply.TheVariants.{Done, Broken, Stopped}
use Rattle.rule_model.specs.Acts.{is_connect, is_disconnect}
use Rattle.rule_model.specs.Entries.{is_done}
use Rattle.shared_service.specs.declared.shared.turns.ClientAct.{ClientAct}
use Rattle.shared_service.specs.declared.shared.turns.ClientAct.TheVariants.{Connects, Parts, Other}

abbrev pub kind_of : Act → ClientAct
kind_of (acts.Connect uid) = Connects
kind_of acts.Disconnect = Parts
kind_of _ = Other

-- the client's number and whether it is connected, after an admitted call of a kind
abbrev pub admitted_after : ClientAct → Option ℕ → ℕ × Bool → ℕ × Bool
admitted_after Connects given before = (unwrap_or given before.0, true)
admitted_after Parts given before = (before.0, false)
admitted_after Other given before = before

abbrev pub client_after : ClientAct → Reply → ℕ × Bool → ℕ × Bool
client_after kind (Done fields) before = admitted_after kind fields.client before
client_after kind (Broken rule code) before = before
client_after kind (Stopped code) before = before

-- whether the client of a pass is connected behind a call: an admitted connect brings one, and an admitted disconnect ends it
abbrev pub connected_after : Act → Reply → Bool → Bool
connected_after act reply before = if is_done reply && is_connect act then true else if is_done reply && is_disconnect act then false else before
