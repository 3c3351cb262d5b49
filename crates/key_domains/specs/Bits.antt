-- Permission bits, as Keystore2's `KeyPermission` numbers them.
use Rattle.std.specs.Prelude.{ℕ, Bool, not, ◌==◌, ◌&&◌, bit_and}
use Rattle.std.specs.Int.RustNames.{bit_or}
use Rattle.key_domains.specs.declared.permission.Permission.{Permission}
use Rattle.key_domains.specs.declared.permission.Permission.TheVariants.{Delete, GetInfo, Grant, ManageBlob, Rebind, ReqForcedOp, Update, Use}

-- the bit of each permission
abbrev pub bit_of : Permission → ℕ
bit_of Delete = 1
bit_of GetInfo = 4
bit_of Grant = 8
bit_of ManageBlob = 16
bit_of Rebind = 32
bit_of ReqForcedOp = 64
bit_of Update = 128
bit_of Use = 256

-- whether a permission is among the bits
abbrev pub has : ℕ → Permission → Bool
has bits permission = bit_and bits (bit_of permission) == bit_of permission

-- the bits of either
abbrev pub joined : ℕ → ℕ → ℕ
joined bits others = bit_or bits others

-- whether each of the others is among the bits
abbrev pub covers : ℕ → ℕ → Bool
covers bits others = bit_and bits others == others

-- what a caller with these bits may pass on: not GRANT, and nothing that it lacks
abbrev pub can_share : ℕ → ℕ → Bool
can_share bits others = not (has others Grant) && covers bits others
