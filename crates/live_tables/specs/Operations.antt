-- The table of the open operations, with what the rules read of each: what a look-up finds in it, and what a change of it is.
use Rattle.std.specs.Prelude.{◌≡◌, ℕ, ◌+◌, ◌-◌, ◌^◌, ◌<◌, Bool, true, false, ◌&&◌, not, ◌==◌, min, List, [], ◌∷◌, ◌++◌, length, map, filter, find, Option, if◌then◌else◌}
use Rattle.std.specs.List.{list_any}
use Rattle.auth_tokens.specs.declared.token.AuthToken.{AuthToken}
use Rattle.token_store.specs.Fitting.{fits}
use Rattle.rule_model.specs.Kept.{open_of}
use Rattle.rule_model.specs.Acts.{is_begin}
use Rattle.rule_model.specs.Entries.{History, count_of, gives}
use Rattle.rule_model.specs.declared.operation.Open.{Open}
use Rattle.rule_model.specs.Operations.{is_busy}
use Rattle.rule_model.specs.Setup.{Setup}
use Rattle.live_tables.specs.declared.operations.OperationRow.{OperationRow}
use Rattle.live_tables.specs.declared.operations.Operations.{Operations}
use Rattle.live_tables.specs.declared.operations.RowChange.{RowChange}
use Rattle.live_tables.specs.declared.operations.RowChange.TheVariants.{Enters, Returns}
use Rattle.live_tables.specs.Alike.{Alike}
use Rattle.live_tables.specs.Numbered.{row_number}

-- the rows, in the order of their begins
abbrev pub rows_in : Operations → List OperationRow
rows_in operations = operations.rows.rows

abbrev pub has_row : ℕ → OperationRow → Bool
has_row number row = row.number == number

abbrev pub is_row_of : ℕ → OperationRow → Bool
is_row_of client row = row.client == client

-- the numbers of the operations of a client, in their order
abbrev pub numbers_of_client : Operations → ℕ → List ℕ
numbers_of_client operations client = map row_number (filter (is_row_of client) (rows_in operations))

-- the open operation of a number
abbrev pub operation_in : Operations → ℕ → Option OperationRow
operation_in operations number = find (has_row number) (rows_in operations)

-- whether a work on an operation of a client is out
abbrev pub has_busy_row : Operations → ℕ → Bool
has_busy_row operations client = list_any (λ (row : OperationRow). is_row_of client row && row.busy) (rows_in operations)

-- how many numbers the table gave to operations
abbrev pub operations_given : Operations → ℕ
operations_given operations = operations.given

-- how many operations there may be
abbrev pub most_operations : Operations → ℕ
most_operations operations = operations.rows.most

-- there may be one operation more
abbrev pub HasRoomForOperation : Operations → Type 0
HasRoomForOperation operations = length (rows_in operations) < most_operations operations

-- a length that has grown, and stays at the greatest number that there is
abbrev pub grown : ℕ → ℕ → ℕ
grown before more = min (before + more) (2 ^ 64 - 1)

-- a row after a change: a work went out, or came back and was taken
abbrev pub changed : RowChange → OperationRow → OperationRow
changed Enters row = record row { busy = true }
changed (Returns added) row = record row { aad = grown row.aad added.aad; text = grown row.text added.text; busy = false }

abbrev pub with_row : ℕ → (OperationRow → OperationRow) → List OperationRow → List OperationRow
with_row number change = map (λ row. if has_row number row then change row else row)

-- a token is for the operation of a row where it names its challenge and fits its list
abbrev pub is_for_row : AuthToken → OperationRow → Bool
is_for_row token row = gives row.challenge token.challenge && fits row.list token

abbrev pub shown : OperationRow → OperationRow
shown row = record row { shown = true }

abbrev pub shown_if : AuthToken → OperationRow → OperationRow
shown_if token row = if is_for_row token row then shown row else row

abbrev pub with_shown : AuthToken → List OperationRow → List OperationRow
with_shown token = map (shown_if token)

-- the same of the operations of these numbers, one after another
abbrev pub with_all_shown : AuthToken → List ℕ → List OperationRow → List OperationRow
with_all_shown token [] rows = rows
with_all_shown token (number ∷ numbers) rows = with_all_shown token numbers (with_row number (shown_if token) rows)

-- a token is shown to those operations that it is for
pub record ShowsRows (token : AuthToken) (old new : Operations) : Type 0 where
  pub rows : rows_in new ≡ with_shown token (rows_in old)
  pub given : operations_given new ≡ operations_given old
  pub most : most_operations new ≡ most_operations old

-- the row of one number changes, and the others are as they were
pub record ChangesRow (op : ℕ) (change : RowChange) (old new : Operations) : Type 0 where
  pub rows : rows_in new ≡ with_row op (changed change) (rows_in old)
  pub given : operations_given new ≡ operations_given old
  pub most : most_operations new ≡ most_operations old

-- the row of one number is gone, and the others are as they were
pub record DropsRow (op : ℕ) (old new : Operations) : Type 0 where
  pub rows : rows_in new ≡ filter (λ row. not (has_row op row)) (rows_in old)
  pub given : operations_given new ≡ operations_given old
  pub most : most_operations new ≡ most_operations old

-- the rows of a client are gone, and the others are as they were
pub record DropsRowsOf (client : ℕ) (old new : Operations) : Type 0 where
  pub rows : rows_in new ≡ filter (λ row. not (is_row_of client row)) (rows_in old)
  pub given : operations_given new ≡ operations_given old
  pub most : most_operations new ≡ most_operations old

-- a row comes behind the others, under the next number
pub record AddsRow (row : OperationRow) (old new : Operations) : Type 0 where
  pub rows : rows_in new ≡ rows_in old ++ row ∷ []
  pub given : operations_given new ≡ operations_given old + 1
  pub most : most_operations new ≡ most_operations old

pub record SameRows (old new : Operations) : Type 0 where
  pub rows : rows_in new ≡ rows_in old
  pub given : operations_given new ≡ operations_given old
  pub most : most_operations new ≡ most_operations old

-- a row is what the rules read of an open operation
pub record IsRow (row : OperationRow) (o : Open) : Type 0 where
  pub number : row.number ≡ o.operation.number
  pub client : row.client ≡ o.operation.client
  pub key : row.key ≡ o.operation.key
  pub plan : row.plan ≡ o.operation.plan
  pub limited : row.limited ≡ o.operation.limited
  pub aad_is : row.aad ≡ length o.aad
  pub text_is : row.text ≡ length o.text
  pub busy_is : row.busy ≡ is_busy o
  pub challenge_is : row.challenge ≡ o.operation.challenge
  pub shown_is : row.shown ≡ o.shown
  pub list_is : row.list ≡ o.operation.list

-- the table stands for a history
pub record OperationsStand (setup : Setup) (operations : Operations) (past : History) : Type 0 where
  pub rows : Alike IsRow (rows_in operations) (open_of setup past)
  pub given : operations_given operations ≡ count_of is_begin past
  pub most : most_operations operations ≡ setup.slots
