-- Who calls, by the pass.
use Rattle.std.specs.Prelude.{◌≡◌}
use Rattle.shared_service.specs.Passes.{number_of}
use Rattle.service_load.specs.declared.caller.LoadThread.{LoadThread}
use Rattle.service_load.specs.declared.service.Service.{Service}
use Rattle.service_load.specs.Services.{IsPassOf}

-- it calls this service
abbrev pub IsFor : Service → LoadThread → Type 0
IsFor service caller = IsPassOf service caller.pass

-- it goes on calling it, under the number that it had
pub record Goes (service : Service) (caller next : LoadThread) : Type 0 where
  pub ours : IsFor service next
  pub number_is : number_of next.pass ≡ number_of caller.pass
