-- Room for the output in the reply to a leave.
use Rattle.std.specs.Prelude.{◌≡◌, ◌≤◌, ℕ, List, Option, Some}
use Rattle.tags.specs.declared.settled.Settled.{Settled}
use Rattle.rule_model.specs.declared.event.Act.{Act}
use Rattle.rule_model.specs.declared.event.Event.{Event}
use Rattle.rule_model.specs.declared.field_sizes.FieldSizes.{FieldSizes}
use Rattle.rule_model.specs.declared.reply.Fields.{Fields}
use Rattle.rule_model.specs.declared.reply.Reply.TheVariants.{Done}
use Rattle.rule_model.specs.Entries.{History, after_step}
use Rattle.rule_model.specs.Legal.{MayStep}
use Rattle.rule_model.specs.ReplyRooms.{no_sizes}
use Rattle.rule_model.specs.Setup.{Setup}
use Rattle.keystore_core.specs.declared.engine.Engine.{Engine}
use Rattle.keystore_core.specs.Engine.{Stands}
use Rattle.keystore_core.specs.Outputs.{PutsOut}

-- it is for what the leave of this enter puts out at most, where the enter is admitted now
pub record IsOutput (engine : Engine) (act : Act) (room : FieldSizes) : Type 0 where
  pub out : ℕ
  pub few : out ≤ 1048656
  pub room_is : room ≡ record no_sizes { out = out }
  pub enough : (setup : Setup) (past : History) (settled : Option Settled) (event : Event) (drawn : List ℕ) (fields : Fields) (ticket : ℕ) → Stands setup engine past → event.act ≡ act
      → MayStep setup past settled event drawn (Done fields) → fields.ticket ≡ Some ticket → PutsOut setup (after_step settled event drawn (Done fields) past) ticket out
