-- What the bytes of a file are answered with.
use Rattle.std.specs.Prelude.{◌≡◌, ℕ, List, Some, None, Result, Ok, Err}
use Rattle.tags.specs.declared.policy.PolicyRow.{PolicyRow}
use Rattle.tags.specs.declared.secrets.DeviceSecrets.{DeviceSecrets}
use Rattle.device_files.specs.Device.{device_in}
use Rattle.device_files.specs.Policy.{policy_in}
use Rattle.device_files.specs.declared.files.FileTrouble.{FileTrouble}
use Rattle.device_files.specs.declared.files.FileTrouble.TheVariants as troubles

-- the device that they spell, or what is wrong where they spell none
abbrev pub ReadsDevice : List ℕ → Result DeviceSecrets FileTrouble → Type 0
ReadsDevice bytes (Ok device) = device_in bytes ≡ Some device
ReadsDevice bytes (Err trouble) = device_in bytes ≡ None

-- the policy that they spell, or what is wrong where they spell none, or want of memory
abbrev pub ReadsPolicy : List ℕ → Result (List PolicyRow) FileTrouble → Type 0
ReadsPolicy bytes (Ok policy) = policy_in bytes ≡ Some policy
ReadsPolicy bytes (Err troubles.Memory) = Unit {0}
ReadsPolicy bytes (Err trouble) = policy_in bytes ≡ None
