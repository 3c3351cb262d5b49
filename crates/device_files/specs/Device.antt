-- What the bytes of device.key spell.
use Rattle.std.specs.Prelude.{ℕ, ◌==◌, List, length, take, drop, Option, Some, None, if◌then◌else◌}
use Rattle.byteorder.specs.Endian.{big_number}
use Rattle.tags.specs.declared.secrets.DeviceSecrets.{DeviceSecrets}

-- 96 bytes: the key that seals blobs, the key of the tokens, the root of trust; and the versions of the system
abbrev pub device_of_system : ℕ → ℕ → List ℕ → DeviceSecrets
device_of_system os patch bytes =
    record { seal = take 32 bytes; token = take 32 (drop 32 bytes); root = take 32 (drop 64 bytes); os = os; patch = patch }

-- the versions of the operating system and of its patches in the last eight bytes of 104; both are 0 where there are 96, and no
-- other length spells a device
abbrev pub device_in : List ℕ → Option DeviceSecrets
device_in bytes =
    if length bytes == 96 then Some (device_of_system 0 0 bytes) else
    (if length bytes == 104 then Some (device_of_system (big_number 4 (drop 96 bytes)) (big_number 4 (drop 100 bytes)) bytes)
    else None)
