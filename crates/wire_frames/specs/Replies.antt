-- How a reply is spelled in a frame. Numbers are big-endian.
use Rattle.std.specs.Prelude.{ℕ, List, [], ◌∷◌, ◌++◌, length, flat_map, Option, Some, None}
use Rattle.std.specs.Int.{w32, cast_unsigned}
use Rattle.byteorder.specs.Endian.{big_bytes}
use Rattle.tags.specs.declared.code.Code.{Code}
use Rattle.tags.specs.declared.rule.Rule.{Rule}
use Rattle.tags.specs.Code.{code_number}
use Rattle.tags.specs.Rule.{letter_of}
use Rattle.rule_model.specs.declared.reply.Fields.{Fields}
use Rattle.rule_model.specs.declared.reply.Reply.{Reply}
use Rattle.rule_model.specs.declared.reply.Reply.TheVariants.{Done, Broken, Stopped}
use Rattle.wire_frames.specs.Spelling.{counted}

-- ---- fields

-- a field that is there: its number, and its value of eight or four bytes, of counted bytes, or of counted entries
abbrev pub long_field : ℕ → Option ℕ → List ℕ
long_field number None = []
long_field number (Some x) = number ∷ big_bytes 8 x

abbrev pub short_field : ℕ → Option ℕ → List ℕ
short_field number None = []
short_field number (Some x) = number ∷ big_bytes 4 x

abbrev pub bytes_field : ℕ → Option (List ℕ) → List ℕ
bytes_field number None = []
bytes_field number (Some bytes) = number ∷ counted bytes

-- an alias, and the number of its key
abbrev pub entry_of : List ℕ × ℕ → List ℕ
entry_of entry = counted entry.0 ++ big_bytes 8 entry.1

abbrev pub entries_of : List (List ℕ × ℕ) → List ℕ
entries_of entries = big_bytes 4 (length entries) ++ flat_map entry_of entries

abbrev pub entries_field : ℕ → Option (List (List ℕ × ℕ)) → List ℕ
entries_field number None = []
entries_field number (Some entries) = number ∷ entries_of entries

-- ---- replies

-- the fields in the order of their numbers: those of a connect, a new key and a begin; those of the other calls; what
-- getKeyEntry says of a key in numbers; and those of bytes
abbrev pub begins_of : Fields → List ℕ
begins_of fields = long_field 1 fields.client ++ (long_field 2 fields.key ++ (long_field 3 fields.op ++ long_field 4 fields.challenge))

abbrev pub calls_of : Fields → List ℕ
calls_of fields = long_field 5 fields.ticket ++ (long_field 6 fields.pruned ++ (long_field 7 fields.grant ++ long_field 8 fields.count))

abbrev pub facts_of : Fields → List ℕ
facts_of fields = short_field 9 fields.uses ++ (short_field 10 fields.domain ++ long_field 11 fields.nspace)

abbrev pub numbers_of : Fields → List ℕ
numbers_of fields = begins_of fields ++ (calls_of fields ++ facts_of fields)

abbrev pub texts_of : Fields → List ℕ
texts_of fields =
    bytes_field 12 fields.alias ++ (bytes_field 13 fields.nonce ++ (bytes_field 14 fields.out
    ++ (bytes_field 15 fields.blob ++ (bytes_field 16 fields.list ++ entries_field 17 fields.entries))))

-- the code as a signed number of four bytes
abbrev pub code_bytes : Code → List ℕ
code_bytes code = big_bytes 4 (cast_unsigned w32 (code_number code))

-- the letter of its table, and its number
abbrev pub rule_bytes : Rule → List ℕ
rule_bytes rule = letter_of rule.table ++ rule.number ∷ []

-- the code, the rule or two bytes 00, and the fields
unfoldable pub reply_body : Reply → List ℕ
reply_body (Done fields) = 0 ∷ 0 ∷ 0 ∷ 0 ∷ 0 ∷ 0 ∷ (numbers_of fields ++ texts_of fields)
reply_body (Broken rule code) = code_bytes code ++ rule_bytes rule
reply_body (Stopped code) = code_bytes code ++ 0 ∷ 0 ∷ []

-- the length of the body, and the body
abbrev pub reply_of : Reply → List ℕ
reply_of reply = counted (reply_body reply)
