-- What the value of a parameter is.
use Rattle.std.specs.Prelude.{ℕ, List, Option, Some, None}
use Rattle.tags.specs.declared.param.ParamValue.{ParamValue}
use Rattle.tags.specs.declared.param.ParamValue.TheVariants.{Number, Flag, Raw}

-- the number of a value
abbrev pub as_number : ParamValue → Option ℕ
as_number (Number n) = Some n
as_number Flag = None
as_number (Raw bytes) = None

-- the bytes of a value
abbrev pub as_bytes : ParamValue → Option (List ℕ)
as_bytes (Number n) = None
as_bytes Flag = None
as_bytes (Raw bytes) = Some bytes
