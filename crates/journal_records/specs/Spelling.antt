-- How a record is spelled. Numbers are big-endian.
use Rattle.std.specs.Prelude.{ℕ, ◌<◌, ◌≤◌, ◌^◌, List, [], ◌∷◌, ◌++◌, length, get_or}
use Rattle.byteorder.specs.Endian.{big_bytes}
use Rattle.byte_strings.specs.Fields as fields
use Rattle.gated_records.specs.Areas.{closed_by, opened_before}
use Rattle.journal_records.specs.declared.change.Change.{Change}
use Rattle.journal_records.specs.declared.change.Change.TheVariants.{Create, Delete, Use, Grant, Ungrant, Clear, Removed, Upgrade}
use Rattle.grants.specs.declared.row.GrantRow.{GrantRow}
use Rattle.journal_records.specs.declared.record.HeldNumbers.{HeldNumbers}
use Rattle.journal_records.specs.declared.record.KeyRecord.{KeyRecord}
use Rattle.journal_records.specs.declared.record.Record.{Record}
use Rattle.journal_records.specs.declared.record.Record.TheVariants as records

-- a length of four bytes, and so many bytes
abbrev pub counted : List ℕ → List ℕ
counted bytes = fields.counted 4 bytes

-- a key, up to its limit
abbrev pub key_fields : HeldNumbers → List ℕ → List ℕ → List ℕ → List ℕ
key_fields numbers alias blob list =
    big_bytes 8 numbers.id ++ (numbers.domain ∷ (big_bytes 8 numbers.nspace
    ++ (counted alias ++ (counted blob ++ (counted list ++ big_bytes 4 numbers.limit)))))

abbrev pub grant_fields : GrantRow → List ℕ
grant_fields row = big_bytes 8 row.grant ++ (big_bytes 8 row.key ++ (big_bytes 4 row.uid ++ big_bytes 4 row.bits))

-- a kind byte and the fields in their order: numbers of eight, four or one byte, and counted bytes
abbrev pub body_of : Change → List ℕ
body_of (Create id domain nspace alias blob list limit) =
    1 ∷ key_fields (record { id = id; domain = domain; nspace = nspace; limit = limit; left = limit }) alias blob list
body_of (Delete id) = 2 ∷ big_bytes 8 id
body_of (Use id) = 3 ∷ big_bytes 8 id
body_of (Grant row) = 4 ∷ grant_fields row
body_of (Ungrant grant) = 5 ∷ big_bytes 8 grant
body_of (Clear domain nspace) = 6 ∷ (domain ∷ big_bytes 8 nspace)
body_of (Removed user) = 7 ∷ big_bytes 4 user
body_of (Upgrade id blob list) = 11 ∷ (big_bytes 8 id ++ (counted blob ++ counted list))

-- the numbers of a key
abbrev pub numbers_of : KeyRecord → HeldNumbers
numbers_of key = record { id = key.id; domain = key.domain; nspace = key.nspace; limit = key.limit; left = key.left }

-- the key of these numbers, and of an alias, a blob and a list
abbrev pub key_of : HeldNumbers → List ℕ → List ℕ → List ℕ → KeyRecord
key_of numbers alias blob list = record {
  id = numbers.id;
  domain = numbers.domain;
  nspace = numbers.nspace;
  alias = alias;
  blob = blob;
  list = list;
  limit = numbers.limit;
  left = numbers.left;
}

-- what a record says: a change, or a row of a snapshot
abbrev pub record_body : Record → List ℕ
record_body (records.Change change) = body_of change
record_body (records.Next key grant) = 8 ∷ (big_bytes 8 key ++ big_bytes 8 grant)
record_body (records.Held key) = 9 ∷ (key_fields (numbers_of key) key.alias key.blob key.list ++ big_bytes 4 key.left)
record_body (records.HeldGrant row) = 10 ∷ grant_fields row

-- the kind byte of a record
abbrev pub kind_of : Record → ℕ
kind_of it = get_or (record_body it) 0 0

-- what follows the gate: the body's length and the body
unfoldable pub record_tail : Record → List ℕ
record_tail it = counted (record_body it)

-- a record: the gate byte 4b, the body's length and the body
abbrev pub record_framed : Record → List ℕ
record_framed it = opened_before (record_tail it)

-- a record with a byte 00 behind it, where the next gate stands
abbrev pub record_closed : Record → List ℕ
record_closed it = closed_by (record_tail it)

-- the records one behind the other, the newest first in the list
abbrev pub spelled : List Record → List ℕ
spelled [] = []
spelled (it ∷ past) = spelled past ++ record_framed it

-- the same of the record of a change
abbrev pub tail_of : Change → List ℕ
tail_of change = record_tail (records.Change change)

abbrev pub framed : Change → List ℕ
framed change = record_framed (records.Change change)

abbrev pub closed_of : Change → List ℕ
closed_of change = record_closed (records.Change change)

-- each number has its width, and each length of bytes four
abbrev pub AreFields : Change → Type 0
AreFields (Create id domain nspace alias blob list limit) =
    (id < 2 ^ 64) × (domain < 2 ^ 8) × (nspace < 2 ^ 64)
    × (length alias < 2 ^ 32) × (length blob < 2 ^ 32) × (length list < 2 ^ 32) × (limit < 2 ^ 32)
AreFields (Delete id) = id < 2 ^ 64
AreFields (Use id) = id < 2 ^ 64
AreFields (Grant row) = (row.grant < 2 ^ 64) × (row.key < 2 ^ 64) × (row.uid < 2 ^ 32) × (row.bits < 2 ^ 32)
AreFields (Ungrant grant) = grant < 2 ^ 64
AreFields (Clear domain nspace) = (domain < 2 ^ 8) × (nspace < 2 ^ 64)
AreFields (Removed user) = user < 2 ^ 32
AreFields (Upgrade id blob list) = (id < 2 ^ 64) × (length blob < 2 ^ 32) × (length list < 2 ^ 32)

-- the body's length has four bytes
abbrev pub IsShort : Change → Type 0
IsShort change = length (body_of change) < 2 ^ 32

-- a change that a record can hold
abbrev pub IsChange : Change → Type 0
IsChange change = AreFields change × IsShort change

abbrev pub AreRecordFields : Record → Type 0
AreRecordFields (records.Change change) = AreFields change
AreRecordFields (records.Next key grant) = (key < 2 ^ 64) × (grant < 2 ^ 64)
AreRecordFields (records.Held key) =
    (key.id < 2 ^ 64) × (key.domain < 2 ^ 8) × (key.nspace < 2 ^ 64)
    × (length key.alias < 2 ^ 32) × (length key.blob < 2 ^ 32) × (length key.list < 2 ^ 32)
    × (key.limit < 2 ^ 32) × (key.left < 2 ^ 32)
AreRecordFields (records.HeldGrant row) = (row.grant < 2 ^ 64) × (row.key < 2 ^ 64) × (row.uid < 2 ^ 32) × (row.bits < 2 ^ 32)

abbrev pub IsShortRecord : Record → Type 0
IsShortRecord it = length (record_body it) < 2 ^ 32

-- a record that can be spelled, of a kind up to the greatest
abbrev pub IsRecord : ℕ → Record → Type 0
IsRecord kinds it = AreRecordFields it × IsShortRecord it × (kind_of it ≤ kinds)
