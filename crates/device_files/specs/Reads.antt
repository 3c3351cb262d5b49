-- What a reader answers against what its definition says.
use Rattle.std.specs.Prelude.{◌≡◌, Option, Some, None, Result, Ok, Err}
use Rattle.device_files.specs.declared.fault.FileFault.{FileFault}
use Rattle.device_files.specs.declared.fault.FileFault.TheVariants.{Malformed, Memory}

-- the value that the definition gives; malformed exactly where it gives none; want of memory is free
abbrev pub GivesView : {T U : Type 0} → (T → U) → Result T FileFault → Option U → Type 0
GivesView seen (Ok x) defined = defined ≡ Some (seen x)
GivesView seen (Err Malformed) defined = defined ≡ None
GivesView seen (Err Memory) defined = Unit {0}
