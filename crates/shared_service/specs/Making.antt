-- What a service is made with.
use Rattle.std.specs.Prelude.{◌≡◌, ℕ}
use Rattle.keystore_core.specs.declared.engine.Engine.{Engine}
use Rattle.shared_service.specs.declared.name.ServiceId.{ServiceId}

-- the name of a service that began with this engine, these counts and this entropy
pub record IsNameOf {N : Type 0} (engine : Engine) (disk entropy : ℕ) (drawn_from : N) (name : ServiceId N) : Type 0 where
  pub engine_is : name.engine.value ≡ engine
  pub disk_is : name.disk ≡ disk
  pub entropy_is : name.entropy ≡ entropy
  pub drawn_is : name.drawn_from.value ≡ drawn_from
