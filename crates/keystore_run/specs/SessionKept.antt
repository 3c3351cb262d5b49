-- What is kept of an engine and the jobs beside it: they stand for some history.
use Rattle.std.specs.Prelude.{◌≡◌, ℕ, None}
use Rattle.rule_model.specs.Entries.{History}
use Rattle.rule_model.specs.Setup.{Setup}
use Rattle.rule_model.specs.Tickets.{ticket_at}
use Rattle.keystore_core.specs.declared.engine.Engine.{Engine}
use Rattle.keystore_core.specs.Engine.{Stands}
use Rattle.keystore_run.specs.declared.jobs.Jobs.{Jobs}
use Rattle.keystore_run.specs.Jobs.{JobsStand}

-- an engine stands for some history, and jobs are those of its works
pub record IsSession (engine : Engine) (jobs : Jobs) : Type 0 where
  pub setup : Setup
  pub past : History
  pub stands : Stands setup engine past
  pub held : JobsStand setup jobs past

-- an engine that stands for some history in which no work is out
pub record IsIdle (engine : Engine) : Type 0 where
  pub setup : Setup
  pub past : History
  pub stands : Stands setup engine past
  pub none : (ticket : ℕ) → ticket_at past ticket ≡ None
