-- How fields are spelled. Numbers are big-endian.
use Rattle.std.specs.Prelude.{ℕ, ◌<◌, ◌^◌, Bool, true, false, List, [], ◌∷◌, ◌++◌, length, Option, Some, None, ⊤}
use Rattle.byteorder.specs.Endian.{big_bytes}

-- a length of `width` bytes, and so many bytes
abbrev pub counted : ℕ → List ℕ → List ℕ
counted width bytes = big_bytes width (length bytes) ++ bytes

-- a byte 00, or a byte 01 and counted bytes
abbrev pub optional : ℕ → Option (List ℕ) → List ℕ
optional width None = 0 ∷ []
optional width (Some bytes) = 1 ∷ counted width bytes

-- a truth value: a byte 00 or 01
abbrev pub flag : Bool → List ℕ
flag false = 0 ∷ []
flag true = 1 ∷ []

-- the length has its width
abbrev pub IsCounted : ℕ → Option (List ℕ) → Type 0
IsCounted width None = ⊤
IsCounted width (Some bytes) = length bytes < 256 ^ width
