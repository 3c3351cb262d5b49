-- The service, as threads call it: how it begins, which passes are its own, and the book that it ends with.
use Rattle.std.specs.Prelude.{◌≡◌, ◌≤◌, ℕ, List, [], ◌∷◌, Option, Some}
use Rattle.ks_outside.specs.Draws.{Draws, counting_from}
use Rattle.ks_outside.specs.declared.counting.SteadyEntropy.{SteadyEntropy}
use Rattle.ks_outside.specs.contracts.counting.SteadyEntropyEntropy.TheImpl.{ghosts as entropy_ghosts}
use Rattle.tags.specs.declared.policy.PolicyRow.{PolicyRow}
use Rattle.tags.specs.Secrets.{demo_device}
use Rattle.journal_records.specs.LastingPart.{empty_lasting}
use Rattle.rule_model.specs.Legal.{Legal}
use Rattle.rule_model.specs.Setup.{Setup}
use Rattle.keystore_core.specs.declared.engine.Engine.{Engine}
use Rattle.keystore_core.specs.Engine.{Stands}
use Rattle.service_book.specs.declared.entry.BookEntry.{BookEntry}
use Rattle.service_book.specs.Book.{Counts, IsCaused, history_of, log_of, own}
use Rattle.shared_service.specs.declared.pass.Pass.{Pass}
use Rattle.shared_service.specs.Drawn.{drawn_in}
use Rattle.shared_service.specs.Passes.{IsOurs, IsSetupOf, engine_of, entropy_of, passes_of, start_of}
use Rattle.service_load.specs.declared.service.Service.{Service}
use Rattle.tags.specs.declared.limits.TheConstants.{MOST_SLOTS}

abbrev pub LoadPass : Type 0
LoadPass = Pass SteadyEntropy entropy_ghosts

-- a pass of this service
abbrev pub IsPassOf : Service → LoadPass → Type 0
IsPassOf service pass = IsOurs service.shared pass

-- how many passes it has
abbrev pub count_of : Service → ℕ
count_of service = passes_of service.shared

-- ---- how it begins

-- the policy for demonstrations
abbrev pub demo_policy : List PolicyRow
demo_policy = record { uid = 1000; nspace = 100; bits = 509 } ∷ record { uid = 1000; nspace = 0; bits = 64 } ∷ []

-- what is fixed in each run: that device and that policy, the most slots, and an empty store
pub record IsDemoSetup (setup : Setup) : Type 0 where
  pub device_is : setup.device ≡ demo_device
  pub policy_is : setup.policy ≡ demo_policy
  pub slots_are : setup.slots ≡ MOST_SLOTS
  pub empty : setup.start ≡ empty_lasting

-- an engine over that, before any entry
pub record IsNewEngine (engine : Engine) : Type 0 where
  pub setup : Setup
  pub is_demo : IsDemoSetup setup
  pub stands : Stands setup engine []

-- the service began with such an engine, and with an entropy that counts up from 00
pub record BeganNew (service : Service) : Type 0 where
  pub engine : IsNewEngine (engine_of service.shared)
  pub entropy : (entropy_of service.shared).next ≡ 0

-- ---- the book that it ends with

-- the bytes that were drawn for a book are the first of those that count up from this one
abbrev pub DrewFrom : ℕ → List BookEntry → Type 0
DrewFrom next book = (left : Option (ℕ → ℕ)) × Draws (Some (counting_from next)) left (drawn_in book)

-- It is legal over what the service began with, caused since then, and drawn from its entropy; and no other pass than those of the service made an entry of it.
pub record IsBookOf (service : Service) (book : List BookEntry) : Type 0 where
  pub legal : (setup : Setup) → IsSetupOf service.shared setup → ∥ Legal setup (history_of (log_of book)) ∥₁
  pub caused : ∥ IsCaused (start_of service.shared) book ∥₁
  pub drew : ∥ DrewFrom (entropy_of service.shared).next book ∥₁
  pub others : (number : ℕ) → count_of service ≤ number → own number book ≡ []

-- a book that so many passes made of a service over an empty store
pub record IsBookBy (passes : ℕ) (book : List BookEntry) : Type 0 where
  pub setup : Setup
  pub is_demo : IsDemoSetup setup
  pub start : Counts
  pub legal : ∥ Legal setup (history_of (log_of book)) ∥₁
  pub caused : ∥ IsCaused start book ∥₁
  pub drew : ∥ DrewFrom 0 book ∥₁
  pub others : (number : ℕ) → passes ≤ number → own number book ≡ []
