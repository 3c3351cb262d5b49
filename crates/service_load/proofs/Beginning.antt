-- How a service begins, and what that makes of its book.
use Rattle.std.proofs.Common.{◌≡◌, ℕ, List, [], refl, subst, arith}
use Rattle.tags.specs.declared.policy.PolicyRow.{PolicyRow}
use Rattle.tags.specs.declared.secrets.DeviceSecrets.{DeviceSecrets}
use Rattle.tags.specs.Secrets.{demo_device}
use Rattle.journal_records.specs.LastingPart.{empty_lasting}
use Rattle.keystore_core.specs.declared.engine.Engine.{Engine}
use Rattle.keystore_core.specs.Engine.{Stands, StandsAtFirst, lasting_of}
use Rattle.keystore_core.specs.Opening.{setup_of}
use Rattle.service_book.specs.declared.entry.BookEntry.{BookEntry}
use Rattle.shared_service.specs.Passes.{start_of}
use Rattle.service_load.specs.declared.service.Service.{Service}
use Rattle.service_load.specs.Services.{BeganNew, DrewFrom, IsBookBy, IsBookOf, IsNewEngine, count_of, demo_policy}
use Rattle.tags.specs.declared.limits.TheConstants.{MOST_SLOTS}

-- one that was opened over an empty store, by the device and the policy for demonstrations
pub new_engine : (device : DeviceSecrets) (policy : List PolicyRow) (engine : Engine) → device ≡ demo_device → policy ≡ demo_policy
    → Stands (setup_of device policy MOST_SLOTS engine) engine [] → lasting_of engine ≡ empty_lasting → IsNewEngine engine
new_engine device policy engine demo rows stands empty = record {
  setup = setup_of device policy MOST_SLOTS engine;
  is_demo = record { device_is = demo; policy_is = rows; slots_are = refl; empty = empty };
  stands = stands;
}

pub first_stands : (engine : Engine) → IsNewEngine engine → StandsAtFirst engine
first_stands engine new = record { setup = new.setup; stands = new.stands }

pub book_by : (service : Service) (passes : ℕ) (book : List BookEntry) → BeganNew service → count_of service ≡ passes → IsBookOf service book → IsBookBy passes book
book_by service passes book new count is = record {
  setup = new.engine.setup;
  is_demo = new.engine.is_demo;
  start = start_of service.shared;
  legal = is.legal new.engine.setup new.engine.stands;
  caused = is.caused;
  drew = subst (λ (next : ℕ). ∥ DrewFrom next book ∥₁) new.entropy is.drew;
  others = λ number more. is.others number (omega (arith, more, count));
}
