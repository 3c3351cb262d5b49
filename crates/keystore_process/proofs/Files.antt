-- What the bytes of a file of the device come to.
use Rattle.std.proofs.Common.{ℕ, Bool, List, Some, Result, Ok, Err, codes, refl}
use Rattle.tags.specs.declared.policy.PolicyRow.{PolicyRow}
use Rattle.tags.specs.declared.secrets.DeviceSecrets.{DeviceSecrets}
use Rattle.device_files.specs.Files.{ReadsPolicy}
use Rattle.device_files.specs.declared.files.FileTrouble.{FileTrouble}
use Rattle.device_files.specs.declared.files.FileTrouble.TheVariants as troubles
use Rattle.keystore_process.specs.Processes.{FindsPolicy, FindsSecrets, ReadsSecrets, Spoilt, Wanting}
use Rattle.keystore_process.specs.declared.system.System.{Ghosts as SystemGhosts}

module _ {P I O S R T Q L : Type 0} (p : SystemGhosts P I O S R T Q L) (system : P) where
  pub policy_found : (bytes : List ℕ) (result : Result (List PolicyRow) FileTrouble) → p.has_file system (codes "policy.json") (Some bytes) → ReadsPolicy bytes result → FindsPolicy p system result
  policy_found bytes (Ok policy) file reads = record { bytes = Some bytes; file = file; policy_is = reads }
  policy_found bytes (Err troubles.Memory) file reads = Wanting refl
  policy_found bytes (Err (troubles.Unread error)) file reads = Spoilt bytes file reads
  policy_found bytes (Err (troubles.TooLong most)) file reads = Spoilt bytes file reads
  policy_found bytes (Err (troubles.WrongLength count)) file reads = Spoilt bytes file reads
  policy_found bytes (Err (troubles.Policy fault)) file reads = Spoilt bytes file reads

  pub secrets_found : (bytes : List ℕ) (result : Result (DeviceSecrets × Bool) FileTrouble) → p.has_file system (codes "device.key") (Some bytes) → ReadsSecrets bytes result → FindsSecrets p system result
  secrets_found bytes (Ok found) file reads = record { bytes = Some bytes; file = file; secrets_are = reads.0; told = reads.1 }
  secrets_found bytes (Err trouble) file reads = Spoilt bytes file reads
