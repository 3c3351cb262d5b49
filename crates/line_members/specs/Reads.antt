-- What a reader answers against what its definition says.
use Rattle.std.specs.Prelude.{◌≡◌, Option, Some, None, Result, Ok, Err}
use Rattle.line_members.specs.declared.fault.LineFault.{LineFault}
use Rattle.line_members.specs.declared.fault.LineFault.TheVariants.{Malformed, Memory}

-- the value that the definition gives; malformed exactly where it gives none; want of memory is free
abbrev pub GivesView : {T U : Type 0} → (T → U) → Result T LineFault → Option U → Type 0
GivesView seen (Ok x) defined = defined ≡ Some (seen x)
GivesView seen (Err Malformed) defined = defined ≡ None
GivesView seen (Err Memory) defined = Unit {0}

abbrev pub Gives : {T : Type 0} → Result T LineFault → Option T → Type 0
Gives (Ok x) defined = defined ≡ Some x
Gives (Err Malformed) defined = defined ≡ None
Gives (Err Memory) defined = Unit {0}

-- what was written to a place is the value that the definition gives
abbrev pub GivesInto : {T : Type 0} → Result Unit LineFault → T → Option T → Type 0
GivesInto (Ok done) written defined = defined ≡ Some written
GivesInto (Err Malformed) written defined = defined ≡ None
GivesInto (Err Memory) written defined = Unit {0}
