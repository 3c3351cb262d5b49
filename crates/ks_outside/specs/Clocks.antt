-- Readings of clocks.
use Rattle.std.specs.Prelude.{ℕ, ◌-◌, ◌/◌, ◌^◌, min, Result, Ok, Err}
use Rattle.std.specs.Duration.{as_nanos}
use Rattle.std.specs.declared.time.Duration.{Duration}

-- a time in whole milliseconds, as far as 64 bits hold it; a clock that could not be read says 0
abbrev pub milliseconds : {E : Type 0} → Result Duration E → ℕ
milliseconds (Ok time) = min (as_nanos time / 1000000) (2 ^ 64 - 1)
milliseconds (Err fault) = 0
