-- What comes to the desk of a request, and what was made for it before the turn.
use Rattle.std.specs.Prelude.{◌≡◌, ◌<◌, ◌^◌, ◌&&◌, ℕ, Bool, true, false, List, None, Result, Ok, Err}
use Rattle.ks_outside.specs.declared.clock.Reading.{Reading}
use Rattle.rule_model.specs.declared.event.Act.{Act}
use Rattle.rule_model.specs.Acts.{is_asked, is_disconnect}
use Rattle.rule_model.specs.ReplyRooms.{sizes_of}
use Rattle.service_book.specs.declared.entry.BookEntry.{BookEntry}
use Rattle.wire_frames.specs.Sizes.{frame_length}
use Rattle.shared_service.specs.declared.prepared.Prepared.{Prepared}
use Rattle.shared_service.specs.Owning.{client_for, event_by, is_parting, out_of}

-- the copy of the event, the length of its frame, and room for the copy of its reply
pub record IsReady (prepared : Prepared) : Type 0 where
  pub copy_is : prepared.copy ≡ prepared.event
  pub frame_is : prepared.frame ≡ frame_length prepared.event.act
  pub frame_small : prepared.frame < 2 ^ 33
  pub room_is : prepared.room ≡ sizes_of prepared.event.act 0

-- the event of an act of this client, which is connected or not
pub record IsPrepared (reading : Reading) (client : ℕ) (connected : Bool) (act : Act) (prepared : Prepared) : Type 0 where
  pub event_is : prepared.event ≡ event_by reading client act
  pub asked : is_asked act ≡ true
  pub parting_is : prepared.parting ≡ (is_disconnect act && connected)
  pub ready : IsReady prepared

-- what comes of a request: it is ready, or memory was wanting; not at the disconnect of a connected client
abbrev pub Prepares : Reading → ℕ → Bool → Act → Result Prepared Act → Type 0
Prepares reading client connected act (Ok prepared) = IsPrepared reading client connected act prepared
Prepares reading client connected act (Err request) = (request ≡ act) × ((is_disconnect act && connected) ≡ false)

-- the act that is asked for
abbrev pub act_in : Result Prepared Act → Act
act_in (Ok prepared) = prepared.event.act
act_in (Err request) = request

-- what comes of a pass, while no ticket of its own is out: the event of its client, where it is ready
abbrev pub ComesFor : ℕ → List BookEntry → Result Prepared Act → Type 0
ComesFor pass log (Ok prepared) =
    (prepared.event.client ≡ client_for prepared.event.act pass log) × (is_asked prepared.event.act ≡ true) × (prepared.parting ≡ is_parting prepared.event.act pass log) × IsReady prepared
ComesFor pass log (Err act) = is_parting act pass log ≡ false

pub record Comes (pass : ℕ) (log : List BookEntry) (coming : Result Prepared Act) : Type 0 where
  pub idle : out_of pass log ≡ None
  pub comes_for : ComesFor pass log coming

-- it is at this reading, where it is ready
abbrev pub IsAt : Reading → Result Prepared Act → Type 0
IsAt reading (Ok prepared) = prepared.event.reading ≡ reading
IsAt reading (Err act) = Unit {0}
