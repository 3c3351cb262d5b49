-- The device for demonstrations.
use Rattle.std.specs.Prelude.{replicate}
use Rattle.tags.specs.declared.secrets.DeviceSecrets.{DeviceSecrets}

-- 32 bytes 01, 32 bytes 02 and 32 bytes 03; version 14 of the operating system, with the patches of June 2024
abbrev pub demo_device : DeviceSecrets
demo_device = record { seal = replicate 32 1; token = replicate 32 2; root = replicate 32 3; os = 140000; patch = 202406 }
