-- What a step of a request stands on.
use Rattle.std.specs.Prelude.{◌≡◌, ◌≤◌, ◌+◌, ℕ, true, false, List, Option, None, IfSome, is_some}
use Rattle.ks_outside.specs.declared.clock.Reading.{Reading}
use Rattle.rule_model.specs.declared.event.Act.{Act}
use Rattle.rule_model.specs.declared.event.Act.TheVariants.{Disconnect}
use Rattle.rule_model.specs.declared.event.Event.{Event}
use Rattle.rule_model.specs.declared.field_sizes.FieldSizes.{FieldSizes}
use Rattle.rule_model.specs.Acts.{is_enter}
use Rattle.rule_model.specs.Acts.{is_asked}
use Rattle.keystore_core.specs.declared.engine.Engine.{Engine}
use Rattle.service_book.specs.declared.entry.BookEntry.{BookEntry}
use Rattle.rule_model.specs.Acts.{need_of}
use Rattle.service_book.specs.Limits.{passes_limit}
use Rattle.shared_service.specs.Desks.{weight}
use Rattle.shared_service.specs.Owning.{client_for, is_parting, out_of}
use Rattle.shared_service.specs.Rooms.{IsOutput}

-- the disconnect of a client
abbrev pub disconnect_by : Reading → ℕ → Event
disconnect_by reading client = record { reading = reading; client = client; act = Disconnect }

-- the event of a request that passes no limit, and whose places are taken
pub record MayGo (pass : ℕ) (event : Event) (log : List BookEntry) (places : ℕ) : Type 0 where
  pub asked : is_asked event.act ≡ true
  pub client_is : event.client ≡ client_for event.act pass log
  pub idle : out_of pass log ≡ None
  pub within : passes_limit event.act log ≡ false
  pub stays : is_parting event.act pass log ≡ false
  pub places_are : weight log + need_of event.act ≤ places

-- an enter has the room for the reply to its leave, and no other act has one
pub record HasLeaveRoom (engine : Engine) (act : Act) (leave : Option FieldSizes) : Type 0 where
  pub has_leave : is_some leave ≡ is_enter act
  pub leave_is : IfSome leave (IsOutput engine act)
