-- What a call came to.
use Rattle.std.proofs.Common.{◌≡◌, ℕ, List, ◌++◌, Option, None, refl}
use Rattle.ks_outside.specs.declared.clock.Reading.{Reading}
use Rattle.turn_lock.specs.Fronts.{Extends, IsFrontOf}
use Rattle.cipher_ops.specs.declared.job.Job.{Job}
use Rattle.rule_model.specs.declared.event.Act.{Act}
use Rattle.rule_model.specs.declared.field_sizes.FieldSizes.{FieldSizes}
use Rattle.service_book.specs.declared.entry.BookEntry.{BookEntry}
use Rattle.service_book.specs.Book.{log_of, ticket_in}
use Rattle.shared_service.specs.declared.name.ServiceId.{ServiceId}
use Rattle.shared_service.specs.declared.served.Served.{Served}
use Rattle.shared_service.specs.Calls.{Once, IsCall, OneStep, Recorded, entries_of}
use Rattle.shared_service.specs.Owning.{by, event_for}
use Rattle.shared_service.specs.Requests.{AreNumbers, IsRequested}

-- a call of one step
pub recorded_once : {N : Type 0} (name : ServiceId N) (pass : ℕ) (reading : Reading) (act : Act) (front log book : List BookEntry) (served : Served) (job : Option Job) (room : Option FieldSizes)
    → IsFrontOf by pass front log → ((more : List BookEntry) → book ≡ log ++ more → Extends by pass front book more)
    → IsRequested name pass (event_for reading act pass (log_of log)) log book served.reply job room → ticket_in served.reply ≡ None → AreNumbers log book served.first served.last → IsCall pass reading act front book served
recorded_once name pass reading act front log book served job room begins extends asked none numbers =
    let s : OneStep = asked.made.s in
    let grows = extends (entries_of pass s) asked.made.grown in
    Recorded (record {
      log = log;
      more = entries_of pass s;
      begins = begins;
      goes_on = grows.begins;
      grown = grows.grown;
      adds = Once s asked.made.event_is asked.made.reply_is none refl asked.made.grown;
      within = asked.within;
      first_is = numbers.first_is;
      last_is = numbers.last_is;
      has_ticket = asked.has_ticket;
      parts = asked.parts;
    })
