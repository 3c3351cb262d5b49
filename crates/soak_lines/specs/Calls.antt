-- What a line of the load calls.
use Rattle.std.specs.Prelude.{ℕ, ◌+◌, ◌%◌, ◌==◌, Bool, true, false, if◌then◌else◌}
use Rattle.soak_lines.specs.declared.call.DrawnWords.{DrawnWords}
use Rattle.soak_lines.specs.declared.call.SoakCall.{SoakCall}
use Rattle.soak_lines.specs.declared.call.SoakCall.TheVariants as calls

-- the client of a call that is no begin: 1 or 2
abbrev pub client_of : DrawnWords → ℕ
client_of words = 1 + words.client % 2

-- the number of one of the operations that were begun so far, or the next
abbrev pub op_of : ℕ → DrawnWords → ℕ
op_of begins words = 1 + words.op % (begins + 1)

-- the input has less than 64 bytes of one value
abbrev pub size_of : DrawnWords → ℕ
size_of words = words.input % 64

abbrev pub byte_of : DrawnWords → ℕ
byte_of words = words.input % 256

abbrev pub by_kind : ℕ → ℕ → DrawnWords → SoakCall
by_kind kind begins words =
    if kind == 0 then calls.BeginMac
    else if kind == 1 then calls.BeginCbc words.input
    else if kind == 2 then calls.BeginGcm words.input
    else if kind == 3 then calls.BeginLimited
    else if kind == 4 then calls.Update (client_of words) (op_of begins words) (size_of words) (byte_of words)
    else if kind == 5 then calls.Update (client_of words) (op_of begins words) (size_of words) (byte_of words)
    else if kind == 6 then calls.Update (client_of words) (op_of begins words) (size_of words) (byte_of words)
    else if kind == 7 then calls.Finish (client_of words) (op_of begins words) (size_of words) (byte_of words)
    else if kind == 8 then calls.Abort (client_of words) (op_of begins words)
    else calls.Count (client_of words)

-- the call of four words, behind so many lines that begin an operation: one kind of ten
abbrev pub call_of : ℕ → DrawnWords → SoakCall
call_of begins words = by_kind (words.kind % 10) begins words

abbrev pub is_begin : SoakCall → Bool
is_begin calls.BeginMac = true
is_begin (calls.BeginCbc word) = true
is_begin (calls.BeginGcm word) = true
is_begin calls.BeginLimited = true
is_begin _ = false
