-- A listener since a service of connections began.
use Rattle.std.specs.Prelude.{◌≡◌, ◌<◌, ◌+◌, ◌^◌, ℕ, Bool, true, ◌||◌, ◌==◌, length}
use Rattle.ks_outside.specs.Carried.{Listened}
use Rattle.ks_outside.specs.declared.listener.Listener.{Ghosts as ListenerGhosts}
use Rattle.connection_workers.specs.Arrivals.{arrived}
use Rattle.connection_workers.specs.declared.intake.Start.{Start}
use Rattle.connection_workers.specs.declared.intake.Intake.{Intake}

-- nothing more is taken from the listener
abbrev pub is_shut : {B L : Type 0} → Intake B L → Bool
is_shut intake = ((intake.left == 0) || intake.failed) || intake.over

-- Since the beginning the listener gave as many links as were taken, each of which is noted; a call of it failed exactly where the intake
-- says so, and it said that no more come where the intake does.
pub record IsIntake {B L : Type 0} (g : ListenerGhosts B L) (start : Start B) (intake : Intake B L) : Type 0 where
  pub links : ℕ
  pub ends : ℕ
  pub listened : Listened g start.begin.value intake.listener links ends intake.failed
  pub noted : length (arrived intake) ≡ links
  pub taken : intake.left + links ≡ start.connections
  pub few : start.connections < 2 ^ 64
  pub ended : intake.over ≡ true → 0 < ends
