-- The numbers and the texts of the statuses.
use Rattle.std.specs.Prelude.{ℕ, List, ◌++◌, codes}
use Rattle.std.specs.Fmt.{decimal}
use Rattle.keystore_run.specs.declared.status.Status.{Status}
use Rattle.keystore_run.specs.declared.status.Status.TheVariants as statuses

-- the exit status of the program
abbrev pub number_of : Status → ℕ
number_of statuses.Ok = 0
number_of statuses.Memory = 1
number_of statuses.Usage = 2
number_of statuses.ReadFault = 3
number_of statuses.WriteFault = 4
number_of (statuses.LineTooLong line) = 5
number_of statuses.DiskFault = 6
number_of (statuses.Corrupted offset) = 7
number_of statuses.ScriptTooLong = 8
number_of statuses.ListenFault = 9

-- what the program says on standard error, behind its name
abbrev pub text_of : Status → List ℕ
text_of statuses.Ok = codes "ok"
text_of statuses.Memory = codes "want of memory"
text_of statuses.Usage = codes "usage"
text_of statuses.ReadFault = codes "read fault"
text_of statuses.WriteFault = codes "write fault"
text_of (statuses.LineTooLong line) = codes "line " ++ decimal line ++ codes " too long"
text_of statuses.DiskFault = codes "disk fault"
text_of (statuses.Corrupted offset) = codes "store corrupted at " ++ decimal offset
text_of statuses.ScriptTooLong = codes "script too long"
text_of statuses.ListenFault = codes "listen fault"
