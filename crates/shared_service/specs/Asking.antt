-- What the turns of a call come to.
use Rattle.std.specs.Prelude.{◌≡◌, ◌<◌, ◌^◌, ℕ, Bool, true, List, length}
use Rattle.ks_outside.specs.declared.disk.Disk.{Ghosts as DiskGhosts}
use Rattle.ks_outside.specs.declared.entropy.Entropy.{Ghosts as EntropyGhosts}
use Rattle.ks_outside.specs.declared.clock.Reading.{Reading}
use Rattle.tags.specs.declared.code.Code.{Code}
use Rattle.turn_lock.specs.Resting.{IsRestingPassAt, resting_front, resting_number}
use Rattle.rule_model.specs.declared.event.Act.{Act}
use Rattle.rule_model.specs.declared.event.Act.TheVariants.{Disconnect}
use Rattle.rule_model.specs.declared.reply.Reply.TheVariants.{Stopped}
use Rattle.rule_model.specs.Acts.{is_enter}
use Rattle.rule_model.specs.Entries.{is_done}
use Rattle.service_book.specs.declared.entry.BookEntry.{BookEntry}
use Rattle.wire_frames.specs.Replies.{reply_body}
use Rattle.shared_service.specs.declared.pass.Pass.{Pass}
use Rattle.shared_service.specs.declared.served.Served.{Served}
use Rattle.shared_service.specs.declared.shared.Shared.{Shared}
use Rattle.shared_service.specs.declared.shared.away.Asked.{Asked}
use Rattle.shared_service.specs.declared.shared.away.Asked.TheVariants.{Answered, Out}
use Rattle.shared_service.specs.declared.shared.away.Away.{Away}
use Rattle.shared_service.specs.Away.{IsEntered, IsJobAway}
use Rattle.shared_service.specs.Calls.{IsCall}
use Rattle.shared_service.specs.Kinds.{connected_after}
use Rattle.shared_service.specs.Passes.{HoldsMaker, IsOurs, connected_of, front_of, number_of, passes_of, service_lock, service_name}

module _ {D N : Type 0} {d : DiskGhosts D} {n : EntropyGhosts N} where
  -- a call of this pass that was answered, with the pass as it is then
  pub record IsAnswered (shared : Shared D N d n) (pass : Pass N n) (reading : Reading) (act : Act) (next : Pass N n) (served : Served) : Type 0 where
    pub ours : IsOurs shared next
    pub number_is : number_of next ≡ number_of pass
    pub calls : ∥ IsCall (number_of pass) reading act (front_of pass) (front_of next) served ∥₁
    pub connected_is : connected_of next ≡ connected_after act served.reply (connected_of pass)
    pub parts : act ≡ Disconnect → connected_of pass ≡ true → is_done served.reply ≡ true
    pub told : length (reply_body served.reply) < 2 ^ 32

  -- a call of this pass that is away, of this service
  pub record IsAwayOf (shared : Shared D N d n) (pass : Pass N n) (reading : Reading) (act : Act) (away : Away N) : Type 0 where
    pub resting : IsRestingPassAt (service_lock shared) (service_name shared) away.seat
    pub maker_is : HoldsMaker (service_lock shared) (service_name shared) (passes_of shared) (number_of pass) away.kept.maker
    pub number_is : resting_number away.seat ≡ number_of pass
    pub reading_is : away.reading ≡ reading
    pub enters : is_enter act ≡ true
    pub connected_is : away.kept.connected ≡ connected_of pass
    pub entered : ∥ IsEntered (service_name shared) (number_of pass) away.kept.client away.kept.connected reading act (front_of pass) (resting_front away.seat) away.first away.ticket away.room ∥₁

  abbrev pub Asks : Shared D N d n → Pass N n → Reading → Act → Asked N n → Type 0
  Asks shared pass reading act (Answered next served) = IsAnswered shared pass reading act next served
  Asks shared pass reading act (Out away job) = IsAwayOf shared pass reading act away × ∥ IsJobAway (service_name shared) (resting_front away.seat) away.ticket job ∥₁

  -- a call that adds nothing and is answered with a code, with its pass, which has then seen this book
  pub record IsTurnedAway (shared : Shared D N d n) (number : ℕ) (book : List BookEntry) (connected : Bool) (code : Code) (next : Pass N n) (served : Served) : Type 0 where
    pub ours : IsOurs shared next
    pub number_is : number_of next ≡ number
    pub front_is : front_of next ≡ book
    pub connected_is : connected_of next ≡ connected
    pub served_is : served ≡ record { first = 0; last = 0; reply = Stopped code }

  abbrev pub TurnedAway : Shared D N d n → ℕ → List BookEntry → Bool → Code → Asked N n → Type 0
  TurnedAway shared number book connected code (Answered next served) = IsTurnedAway shared number book connected code next served
  TurnedAway shared number book connected code (Out away job) = ⊥

  -- a call that is away
  pub record IsOut (shared : Shared D N d n) (away : Away N) : Type 0 where
    pub pass : Pass N n
    pub reading : Reading
    pub act : Act
    pub is : IsAwayOf shared pass reading act away
