-- The status of a run that stops at a line.
use Rattle.std.specs.Prelude.{Bool, true, false, Result, Ok, Err}
use Rattle.keystore_run.specs.declared.serve.Halt.{Halt}
use Rattle.keystore_run.specs.declared.serve.Halt.TheVariants as halts
use Rattle.keystore_run.specs.declared.status.Status.{Status}
use Rattle.keystore_run.specs.declared.status.Status.TheVariants as statuses

abbrev pub status_of : Halt → Status
status_of halts.Memory = statuses.Memory
status_of halts.Write = statuses.WriteFault

-- whether a write failed
abbrev pub is_write_halt : Result (Unit {0}) Halt → Bool
is_write_halt (Ok u) = false
is_write_halt (Err halts.Memory) = false
is_write_halt (Err halts.Write) = true
