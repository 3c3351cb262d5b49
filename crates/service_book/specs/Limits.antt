-- The limits of a run of the service: how many entries its book may have, and how many bytes of requests and replies.
use Rattle.std.specs.Prelude.{ℕ, ◌+◌, ◌-◌, ◌*◌, nat_lt, Bool, true, false, ◌||◌, List, [], ◌∷◌, length, if◌then◌else◌}
use Rattle.rule_model.specs.declared.entry.Entry.{Entry}
use Rattle.rule_model.specs.declared.entry.Entry.TheVariants.{Acted, Settling}
use Rattle.rule_model.specs.declared.event.Act.{Act}
use Rattle.rule_model.specs.declared.event.Act.TheVariants.{Disconnect}
use Rattle.rule_model.specs.declared.reply.Reply.{Reply}
use Rattle.rule_model.specs.Acts.{is_connect, is_disconnect, is_enter, is_leave, need_of}
use Rattle.rule_model.specs.Entries.{admits}
use Rattle.wire_frames.specs.Replies.{reply_of}
use Rattle.wire_frames.specs.Sizes.{frame_length}
use Rattle.service_book.specs.declared.entry.BookEntry.{BookEntry}

-- the most entries of a book, and the most bytes that it records
abbrev pub MOST_ENTRIES : ℕ
MOST_ENTRIES = 1048576

abbrev pub MOST_BYTES : ℕ
MOST_BYTES = 536870912

-- the bytes that are set aside for the replies of a call: more than a reply and its ticket's can have
abbrev pub CALL_BYTES : ℕ
CALL_BYTES = 1114112

-- how many entries of a log pass a test
abbrev pub count : (Entry → Bool) → List BookEntry → ℕ
count test [] = 0
count test (e ∷ log) = if test e.entry then count test log + 1 else count test log

-- an entry with an act that passes the test, whatever its reply
abbrev pub is_of : (Act → Bool) → Entry → Bool
is_of test (Acted event drawn reply) = test event.act
is_of test (Settling settled) = false

-- The connected clients: each comes by an admitted connect and goes by an admitted disconnect.
abbrev pub clients_in : List BookEntry → ℕ
clients_in log = count (admits is_connect) log - count (admits is_disconnect) log

-- The tickets that are out: each goes out by an admitted enter and comes back by a leave.
abbrev pub tickets_in : List BookEntry → ℕ
tickets_in log = count (admits is_enter) log - count (is_of is_leave) log

-- the bytes of a request and its reply that an entry records: a leave has no request, a disconnect and a settling record none
abbrev pub acted_bytes : Act → Reply → ℕ
acted_bytes Disconnect reply = 0
acted_bytes act reply = frame_length act + length (reply_of reply)

abbrev pub bytes_of : Entry → ℕ
bytes_of (Settling settled) = 0
bytes_of (Acted event drawn reply) = acted_bytes event.act reply

abbrev pub recorded : List BookEntry → ℕ
recorded [] = 0
recorded (e ∷ log) = recorded log + bytes_of e.entry

-- the entries with a call: those of the book, one for each client's disconnect and each ticket's leave, and those of the call
abbrev pub entries_with : Act → List BookEntry → ℕ
entries_with act log = length log + clients_in log + tickets_in log + need_of act

abbrev pub bytes_with : Act → List BookEntry → ℕ
bytes_with act log = recorded log + frame_length act + CALL_BYTES + CALL_BYTES * tickets_in log

-- a call passes a limit
abbrev pub passes_limit : Act → List BookEntry → Bool
passes_limit act log = nat_lt MOST_ENTRIES (entries_with act log) || nat_lt MOST_BYTES (bytes_with act log)
