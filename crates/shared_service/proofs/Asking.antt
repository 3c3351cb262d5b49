-- A request that may go may be made: none is a leave.
use Rattle.std.proofs.Common.{◌≡◌, ℕ, true, List, Option, None, refl, arith}
use Rattle.rule_model.specs.declared.event.Act.{Act}
use Rattle.rule_model.specs.declared.event.Act.TheVariants.{Connect, Leave}
use Rattle.rule_model.specs.declared.event.Event.{Event}
use Rattle.rule_model.specs.declared.field_sizes.FieldSizes.{FieldSizes}
use Rattle.rule_model.specs.Acts.{is_asked}
use Rattle.rule_model.specs.Entries.{History}
use Rattle.rule_model.specs.Jobs.{HasDone}
use Rattle.rule_model.specs.ReplyRooms.{sizes_of}
use Rattle.rule_model.specs.Setup.{Setup}
use Rattle.keystore_core.specs.Outputs.{HasOutRoom}
use Rattle.service_book.specs.declared.entry.BookEntry.{BookEntry}
use Rattle.service_book.specs.Book.{IsOwnAct, history_of}
use Rattle.shared_service.specs.declared.name.ServiceId.{ServiceId}
use Rattle.shared_service.specs.Desks.{ComesInTurn, MayMake}
use Rattle.shared_service.specs.Going.{MayGo}
use Rattle.shared_service.specs.Owning.{client_for, out_of}

turn_asked : (act : Act) (pass : ℕ) (log : List BookEntry) → is_asked act ≡ true → out_of pass log ≡ None → ComesInTurn act pass log
turn_asked (Leave ticket) pass log asked idle = cc
turn_asked _ pass log asked idle = (asked, idle)

own_asked : (act : Act) (client pass : ℕ) (log : List BookEntry) → is_asked act ≡ true → client ≡ client_for act pass log → IsOwnAct act client pass log
own_asked (Leave ticket) client pass log asked is = cc
own_asked (Connect uid) client pass log asked is = is
own_asked _ client pass log asked is = is

none_back : (act : Act) (setup : Setup) (past : History) → is_asked act ≡ true → HasDone setup past act None
none_back (Leave ticket) setup past asked = cc
none_back _ setup past asked = tt

none_out : (act : Act) (setup : Setup) (past : History) → is_asked act ≡ true → HasOutRoom setup past act 0
none_out (Leave ticket) setup past asked = cc
none_out _ setup past asked = tt

pub may_make : {N : Type 0} (name : ServiceId N) (pass : ℕ) (event : Event) (log : List BookEntry) (places : ℕ) (room : FieldSizes) → MayGo pass event log places
    → room ≡ sizes_of event.act 0 → MayMake name log pass event room None
may_make name pass event log places room may room_is = record {
  out = 0;
  few = omega arith;
  room_is = room_is;
  turn = turn_asked event.act pass log may.asked may.idle;
  own = own_asked event.act event.client pass log may.asked may.client_is;
  back_is = λ s of. none_back event.act s (history_of log) may.asked;
  enough = λ s of. none_out event.act s (history_of log) may.asked;
}
