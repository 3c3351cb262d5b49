-- Which failures of a listener pass, and how long they are waited for.
use Rattle.std.specs.Prelude.{ℕ, ◌+◌, ◌-◌, min, Bool, true, false, ◌&&◌, ◌||◌, nat_lt, ◌==◌, ℤ, pos, negsuc, Option, Some, None, if◌then◌else◌}
use Rattle.outside_net.specs.declared.passing.TheConstants.{FIRST, LONGEST, TOGETHER}
use Rattle.std.specs.IoError.{error_kind, raw_os_error}
use Rattle.std.specs.declared.io.Error.{Error}
use Rattle.std.specs.declared.io.ErrorKind.{ErrorKind}
use Rattle.std.specs.declared.io.ErrorKind.TheVariants.{ConnectionAborted, Interrupted, OutOfMemory}

-- the client took its connection back, a signal came, or there is no memory
abbrev pub is_passing_kind : ErrorKind → Bool
is_passing_kind ConnectionAborted = true
is_passing_kind Interrupted = true
is_passing_kind OutOfMemory = true
is_passing_kind _ = false

-- Linux: the system is out of file descriptors (23), the process is (24), or the system is out of buffers (105)
abbrev pub is_passing_code : Option ℤ → Bool
is_passing_code (Some (pos code)) = code == 23 || (code == 24 || code == 105)
is_passing_code (Some (negsuc code)) = false
is_passing_code None = false

-- a call that failed so may succeed a moment later
abbrev pub is_passing : Error → Bool
is_passing error = is_passing_kind (error_kind error) || is_passing_code (raw_os_error error)

-- the pause before the next try, in milliseconds, where so much was waited: the first, then twice as long each time (all pauses so far and the first once more), up to the longest, and so much together
abbrev pub pause_behind : Error → ℕ → Option ℕ
pause_behind error waited = if nat_lt waited TOGETHER && is_passing error then Some (min (min (waited + FIRST) LONGEST) (TOGETHER - waited)) else None
