-- The state of the device: what a look-up finds in it, and what a change of it is.
use Rattle.std.specs.Prelude.{◌≡◌, ℕ, Bool, false, get_or}
use Rattle.rule_model.specs.declared.entry_change.BootChange.{BootChange}
use Rattle.rule_model.specs.Boot.{early_after, has_early_ended, is_unlocked, unlocked_after}
use Rattle.rule_model.specs.Entries.{History}
use Rattle.rule_model.specs.Setup.{Setup}
use Rattle.live_tables.specs.declared.device.DeviceState.{DeviceState}

-- whether a user is unlocked; one that cannot be is not
abbrev pub unlocked_in : DeviceState → ℕ → Bool
unlocked_in device user = get_or device.unlocked.items user false

-- whether early boot has ended
abbrev pub early_in : DeviceState → Bool
early_in device = device.early_ended

-- every user is locked, and early boot has not ended
pub record IsStart (device : DeviceState) : Type 0 where
  pub users : (user : ℕ) → unlocked_in device user ≡ false
  pub early : early_in device ≡ false

-- a user is locked or unlocked, or early boot ends
pub record ChangesDevice (change : BootChange) (old new : DeviceState) : Type 0 where
  pub users : (user : ℕ) → unlocked_in new user ≡ unlocked_after change user (unlocked_in old user)
  pub early : early_in new ≡ early_after change (early_in old)

-- the state stands for a history
pub record DeviceStands (setup : Setup) (device : DeviceState) (past : History) : Type 0 where
  pub users : (user : ℕ) → unlocked_in device user ≡ is_unlocked setup past user
  pub early : early_in device ≡ has_early_ended setup past
