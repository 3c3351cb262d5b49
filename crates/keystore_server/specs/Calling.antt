-- A pass of a service as the one who answers a connection.
use Rattle.std.specs.Prelude.{◌≡◌}
use Rattle.ks_outside.specs.declared.clock.Reading.{Reading}
use Rattle.ks_outside.specs.declared.disk.Disk.{Ghosts as DiskGhosts}
use Rattle.ks_outside.specs.declared.entropy.Entropy.{Ghosts as EntropyGhosts}
use Rattle.rule_model.specs.declared.event.Act.{Act}
use Rattle.rule_model.specs.declared.reply.Reply.{Reply}
use Rattle.rule_model.specs.Legal.{Legal}
use Rattle.rule_model.specs.Setup.{Setup}
use Rattle.service_book.specs.Book.{IsCaused, history_of, log_of}
use Rattle.shared_service.specs.declared.pass.Pass.{Pass}
use Rattle.shared_service.specs.declared.served.Served.{Served}
use Rattle.shared_service.specs.declared.shared.Shared.{Shared}
use Rattle.shared_service.specs.Answers.{AreAnswers}
use Rattle.shared_service.specs.Calls.{IsCall}
use Rattle.shared_service.specs.Drawn.{DrewFirst}
use Rattle.shared_service.specs.Passes.{IsOurs, IsSetupOf, entropy_of, front_of, number_of, start_of}

-- One pass of the service became the other by a call for this act, at a reading that the clock shows, that was answered with this reply:
-- the call added these entries to its own, and what it has seen by then is legal and caused, was drawn from the entropy of the service, and
-- answered by the rules where no device failed.
pub record IsAnswered {D N : Type 0} {d : DiskGhosts D} {n : EntropyGhosts N} (shared : Shared D N d n) (shows : Reading → Type 0) (old : Pass N n) (act : Act) (reply : Reply) (new : Pass N n) : Type 0 where
  pub reading : Reading
  pub shown : shows reading
  pub served : Served
  pub reply_is : served.reply ≡ reply
  pub call : ∥ IsCall (number_of old) reading act (front_of old) (front_of new) served ∥₁
  pub number : number_of new ≡ number_of old
  pub ours : IsOurs shared new
  pub legal : (setup : Setup) → IsSetupOf shared setup → ∥ Legal setup (history_of (log_of (front_of new))) ∥₁
  pub caused : ∥ IsCaused (start_of shared) (front_of new) ∥₁
  pub drew : ∥ DrewFirst n (entropy_of shared) (front_of new) ∥₁
  pub complete : (setup : Setup) → IsSetupOf shared setup → ∥ AreAnswers setup (log_of (front_of new)) ∥₁
