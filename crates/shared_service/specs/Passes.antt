-- What contracts say of a service and of its passes.
use Rattle.std.specs.Prelude.{◌≡◌, ◌+◌, ◌<◌, ◌==◌, ℕ, Bool, true, false, List, [], length, get_or, Option, Some, None}
use Rattle.std.specs.List.{list_any}
use Rattle.ks_outside.specs.declared.disk.Disk.{Ghosts as DiskGhosts}
use Rattle.ks_outside.specs.declared.entropy.Entropy.{Ghosts as EntropyGhosts}
use Rattle.atomic_table.specs.Seated.{TableId}
use Rattle.rule_model.specs.Setup.{Setup}
use Rattle.turn_lock.specs.declared.lock.RestingMaker.{RestingMaker}
use Rattle.turn_lock.specs.Passes.{lock_id, name_of}
use Rattle.turn_lock.specs.Resting.{IsRestingMakerAt, IsRestingPassAt, resting_front, resting_made, resting_number}
use Rattle.keystore_core.specs.declared.engine.Engine.{Engine}
use Rattle.service_book.specs.declared.entry.BookEntry.{BookEntry}
use Rattle.service_book.specs.Book.{Counts}
use Rattle.shared_service.specs.declared.name.ServiceId.{ServiceId}
use Rattle.shared_service.specs.declared.pass.Pass.{Pass}
use Rattle.shared_service.specs.declared.shared.Shared.{Shared}
use Rattle.shared_service.specs.Names as names

abbrev pub number_of : {N : Type 0} {n : EntropyGhosts N} → Pass N n → ℕ
number_of pass = resting_number pass.seat

-- the front of the book that it has seen
abbrev pub front_of : {N : Type 0} {n : EntropyGhosts N} → Pass N n → List BookEntry
front_of pass = resting_front pass.seat

-- whether it has a client that is connected
abbrev pub connected_of : {N : Type 0} {n : EntropyGhosts N} → Pass N n → Bool
connected_of pass = pass.kept.connected

-- of so many passes the last has the right to make passes, so that none is made any more where it ends the service
abbrev pub HoldsMaker : {N : Type 0} → TableId → ServiceId N → ℕ → ℕ → Option (RestingMaker BookEntry (ServiceId N)) → Type 0
HoldsMaker lock name count number None = number + 1 < count
HoldsMaker lock name count number (Some maker) = IsRestingMakerAt lock name maker × (resting_made maker ≡ count)

-- a pass of the lock with this identity and name
abbrev pub RestsAt : {N : Type 0} {n : EntropyGhosts N} → TableId → ServiceId N → Pass N n → Type 0
RestsAt lock name pass = IsRestingPassAt lock name pass.seat

module _ {D N : Type 0} {d : DiskGhosts D} {n : EntropyGhosts N} where
  abbrev pub service_name : Shared D N d n → ServiceId N
  service_name shared = name_of shared.lock

  abbrev pub service_lock : Shared D N d n → TableId
  service_lock shared = lock_id shared.lock

  -- the engine as the service took it
  abbrev pub engine_of : Shared D N d n → Engine
  engine_of shared = names.engine_before (service_name shared)

  -- the entropy as the service took it
  abbrev pub entropy_of : Shared D N d n → N
  entropy_of shared = names.entropy_before (service_name shared)

  -- how many passes were made
  abbrev pub passes_of : Shared D N d n → ℕ
  passes_of shared = shared.passes

  -- what is fixed in a run of the service, and the counts that it began with
  abbrev pub IsSetupOf : Shared D N d n → Setup → Type 0
  IsSetupOf shared setup = names.IsSetupOf (service_name shared) setup

  abbrev pub start_of : Shared D N d n → Counts
  start_of shared = names.counts_before (service_name shared)

  -- a pass of this service
  pub record IsOurs (shared : Shared D N d n) (pass : Pass N n) : Type 0 where
    pub resting : RestsAt (service_lock shared) (service_name shared) pass
    pub maker_is : HoldsMaker (service_lock shared) (service_name shared) (passes_of shared) (number_of pass) pass.kept.maker

-- whether a pass of this number is among them
abbrev pub has_number : {N : Type 0} {n : EntropyGhosts N} → ℕ → List (Pass N n) → Bool
has_number {N} {n} number passes = list_any (λ (p : Pass N n). number_of p == number) passes

-- all passes of the numbers below a count are among them
abbrev pub HasAll : {N : Type 0} {n : EntropyGhosts N} → ℕ → List (Pass N n) → Type 0
HasAll count passes = (number : ℕ) → number < count → has_number number passes ≡ true

-- they are numbered in their order, from 0
abbrev pub AreNumbered : {N : Type 0} {n : EntropyGhosts N} → List (Pass N n) → Type 0
AreNumbered {N} {n} passes = (k : ℕ) (d : Pass N n) → k < length passes → number_of (get_or passes k d) ≡ k

-- a pass that has seen nothing, and has no client
abbrev pub IsNew : {N : Type 0} {n : EntropyGhosts N} → Pass N n → Type 0
IsNew pass = (front_of pass ≡ []) × (connected_of pass ≡ false)

-- the pass of this number, of so many
pub record IsNewPass {N : Type 0} {n : EntropyGhosts N} (lock : TableId) (name : ServiceId N) (count number : ℕ) (pass : Pass N n) : Type 0 where
  pub rests : RestsAt lock name pass
  pub maker_is : HoldsMaker lock name count (number_of pass) pass.kept.maker
  pub number_is : number_of pass ≡ number
  pub new : IsNew pass
