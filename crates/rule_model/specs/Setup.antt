-- What is fixed in a run.
use Rattle.std.specs.Prelude.{ℕ, List}
use Rattle.journal_records.specs.LastingPart.{Lasting}
use Rattle.tags.specs.declared.secrets.DeviceSecrets.{DeviceSecrets}
use Rattle.tags.specs.declared.policy.PolicyRow.{PolicyRow}

-- what is fixed in a run: the device's secrets, the policy, the slots, and the lasting part at the start
pub record Setup : Type 0 where
  pub device : DeviceSecrets
  pub policy : List PolicyRow
  pub slots : ℕ
  pub start : Lasting
