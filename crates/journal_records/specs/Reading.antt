-- Reading a record from left to right.
use Rattle.std.specs.Prelude.{◌≡◌, ℕ, Bool, ◌&&◌, nat_le, List, [], ◌∷◌, Option, Some, None, Result, Ok, Err, ◌==◌, if◌then◌else◌}
use Rattle.std.specs.Option.{option_and_then}
use Rattle.byte_strings.specs.Readers.{Reader, byte_at, number_at, counted_at, ◌>>=◌, done, row_of, ended}
use Rattle.journal_records.specs.declared.change.Change.{Change}
use Rattle.journal_records.specs.declared.change.Change.TheVariants.{Create, Delete, Use, Grant, Ungrant, Clear, Removed, Upgrade}
use Rattle.journal_records.specs.declared.record.TheConstants.{AREA_KINDS}
use Rattle.journal_records.specs.declared.record.Record.{Record}
use Rattle.journal_records.specs.declared.record.Record.TheVariants as records
use Rattle.journal_records.specs.declared.fault.RecordFault.{RecordFault}
use Rattle.journal_records.specs.declared.fault.RecordFault.TheVariants.{Bad, Memory}

-- what a reader returned, seen by view, is what reading gives, unless memory was wanting
abbrev pub Says : {X Y : Type 0} → (X → Y) → Result X RecordFault → Option Y → Type 0
Says view (Ok x) read = read ≡ Some (view x)
Says view (Err Bad) read = read ≡ None
Says view (Err Memory) read = Unit {0}

-- ---- the fields of each kind

unfoldable pub created_at : Reader Change
created_at = do
  id ← number_at 8
  domain ← byte_at
  nspace ← number_at 8
  alias ← counted_at 4
  blob ← counted_at 4
  list ← counted_at 4
  limit ← number_at 4
  done (Create id domain nspace alias blob list limit)

abbrev pub deleted_at : Reader Change
deleted_at = do
  id ← number_at 8
  done (Delete id)

abbrev pub used_at : Reader Change
used_at = do
  id ← number_at 8
  done (Use id)

unfoldable pub granted_at : Reader Change
granted_at = do
  grant ← number_at 8
  key ← number_at 8
  uid ← number_at 4
  bits ← number_at 4
  done (Grant (record { grant = grant; key = key; uid = uid; bits = bits }))

abbrev pub ungranted_at : Reader Change
ungranted_at = do
  grant ← number_at 8
  done (Ungrant grant)

abbrev pub cleared_at : Reader Change
cleared_at = do
  domain ← byte_at
  nspace ← number_at 8
  done (Clear domain nspace)

abbrev pub removed_at : Reader Change
removed_at = do
  user ← number_at 4
  done (Removed user)

unfoldable pub upgraded_at : Reader Change
upgraded_at = do
  id ← number_at 8
  blob ← counted_at 4
  list ← counted_at 4
  done (Upgrade id blob list)

-- the kinds of change, by their numbers; a journal has those up to 7
abbrev pub kinds : List (ℕ × Reader Change)
kinds =
    (1, created_at) ∷ (2, deleted_at) ∷ (3, used_at) ∷ (4, granted_at) ∷ (5, ungranted_at) ∷ (6, cleared_at) ∷ (7, removed_at) ∷ (11, upgraded_at) ∷ []

-- ---- the rows of a snapshot

unfoldable pub next_at : Reader Record
next_at = do
  key ← number_at 8
  grant ← number_at 8
  done (records.Next key grant)

unfoldable pub held_at : Reader Record
held_at = do
  id ← number_at 8
  domain ← byte_at
  nspace ← number_at 8
  alias ← counted_at 4
  blob ← counted_at 4
  list ← counted_at 4
  limit ← number_at 4
  left ← number_at 4
  done (records.Held (record { id = id; domain = domain; nspace = nspace; alias = alias; blob = blob; list = list; limit = limit; left = left }))

unfoldable pub held_grant_at : Reader Record
held_grant_at = do
  grant ← number_at 8
  key ← number_at 8
  uid ← number_at 4
  bits ← number_at 4
  done (records.HeldGrant (record { grant = grant; key = key; uid = uid; bits = bits }))

-- the rows, by their numbers
abbrev pub rows : List (ℕ × Reader Record)
rows = (8, next_at) ∷ (9, held_at) ∷ (10, held_grant_at) ∷ []

-- ---- records

-- the change of a kind, as a record
abbrev pub changed_at : ℕ → Reader Record
changed_at kind = do
  change ← row_of kind kinds
  done (records.Change change)

-- whether a kind is that of a row of a snapshot
abbrev pub is_row : ℕ → Bool
is_row kind = nat_le 8 kind && nat_le kind 10

-- the fields of a body, by its kind
abbrev pub fields_of : ℕ → Reader Record
fields_of kind bytes = if is_row kind then row_of kind rows bytes else changed_at kind bytes

-- the same, up to the greatest kind that may stand there
abbrev pub fields_within : ℕ → ℕ → Reader Record
fields_within greatest kind bytes = if nat_le kind greatest then fields_of kind bytes else None

-- a kind, and its fields
unfoldable pub body_at : ℕ → Reader Record
body_at greatest = do
  kind ← byte_at
  fields_within greatest kind

-- what a body spells
abbrev pub body_in : ℕ → List ℕ → Option Record
body_in greatest body = ended (body_at greatest body)

-- the record that stands at the front, behind its gate, and the bytes after it
unfoldable pub record_at : ℕ → List ℕ → Option (Record × List ℕ)
record_at greatest bytes =
    option_and_then (λ body. option_and_then (λ it. Some (it, body.1)) (body_in greatest body.0)) (counted_at 4 bytes)

-- ---- records of changes

-- a record that is a change
abbrev pub change_of : Record → Option Change
change_of (records.Change change) = Some change
change_of (records.Next key grant) = None
change_of (records.Held key) = None
change_of (records.HeldGrant row) = None

-- what there is of it, and nothing is read
abbrev pub only : {X : Type 0} → Option X → Reader X
only None bytes = None
only (Some x) bytes = Some (x, bytes)

-- the change whose record stands at the front, behind its gate, and the bytes after it
unfoldable pub change_at : Reader Change
change_at = do
  it ← record_at AREA_KINDS
  only (change_of it)

-- the change that these bytes are the record of
unfoldable pub record_in : List ℕ → Option Change
record_in bytes =
    option_and_then (λ gate. if gate.0 == 75 then ended (change_at gate.1) else None) (byte_at bytes)
