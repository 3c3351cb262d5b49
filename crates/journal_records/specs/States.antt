-- What records leave, read one behind the other: changes, and rows of a snapshot before them.
use Rattle.std.specs.Prelude.{ℕ, Bool, true, false, ◌&&◌, ◌||◌, not, ◌==◌, nat_lt, nat_le, List, [], ◌∷◌, ◌++◌, length, Option, None, Some, if◌then◌else◌}
use Rattle.std.specs.List.{list_all, list_any}
use Rattle.std.specs.Option.{option_and_then}
use Rattle.grants.specs.declared.row.GrantRow.{GrantRow}
use Rattle.grants.specs.Rows.{is_for}
use Rattle.journal_records.specs.declared.change.Change.{Change}
use Rattle.journal_records.specs.declared.change.Change.TheVariants.{Create}
use Rattle.journal_records.specs.declared.record.KeyRecord.{KeyRecord}
use Rattle.journal_records.specs.declared.record.Record.{Record}
use Rattle.journal_records.specs.declared.record.Record.TheVariants as records
use Rattle.journal_records.specs.LastingPart.{Lasting, empty_lasting, is_named, some_has_id}
use Rattle.journal_records.specs.Needs.{is_met}
use Rattle.journal_records.specs.Effects.{after}
use Rattle.tags.specs.declared.limits.TheConstants.{MOST_GRANTS, NUMBERS_END}

-- how far a reading has come: no record stands before, or rows of a snapshot alone, or a change
pub data Phase : Type 0 where
  AtStart : Phase
  AmongRows : Phase
  AmongChanges : Phase

-- the lasting part that the records leave, and which of them there were
pub record ReadState : Type 0 where
  pub part : Lasting
  pub phase : Phase

abbrev pub is_at_start : Phase → Bool
is_at_start AtStart = true
is_at_start AmongRows = false
is_at_start AmongChanges = false

-- no change stands before
abbrev pub takes_rows : Phase → Bool
takes_rows AtStart = true
takes_rows AmongRows = true
takes_rows AmongChanges = false

-- ---- needs

-- a number that the next key or the next grant may take, or the end of all numbers
abbrev pub is_next_number : ℕ → Bool
is_next_number number = nat_le 1 number && nat_le number NUMBERS_END

-- a number that was given before the next one
abbrev pub is_given : ℕ → ℕ → Bool
is_given number next = nat_le 1 number && nat_lt number next

-- a key that is limited has uses left, up to its limit; one that is not has none
abbrev pub has_uses_within : ℕ → ℕ → Bool
has_uses_within limit left = nat_le left limit && (limit == 0 || nat_le 1 left)

-- the change that makes a key of this number
abbrev pub making : KeyRecord → Change
making key = Create key.id key.domain key.nspace key.alias key.blob key.list key.limit

-- a key may be held: its number was given, behind those of the others; its owner and alias are free; uses are left; and where its number
-- were the next one it might be made
abbrev pub may_hold : Lasting → KeyRecord → Bool
may_hold part key =
    is_given key.id part.next_key
    && (list_all (λ (held : KeyRecord). nat_lt held.id key.id) part.keys
    && (not (list_any (is_named key.domain key.nspace key.alias) part.keys)
    && (has_uses_within key.limit key.left
    && is_met (record part { next_key = key.id }) (making key))))

-- a grant may be held: its number was given, behind those of the others; its key is live, and not granted to its uid; and no more than
-- the most are held
abbrev pub may_hold_grant : Lasting → GrantRow → Bool
may_hold_grant part row =
    is_given row.grant part.next_grant
    && (list_all (λ (held : GrantRow). nat_lt held.grant row.grant) part.grants
    && (some_has_id row.key part.keys
    && (not (list_any (is_for row.key row.uid) part.grants)
    && nat_lt (length part.grants) MOST_GRANTS)))

-- whether the need of a record is met
abbrev pub met_in : ReadState → Record → Bool
met_in state (records.Change change) = is_met state.part change
met_in state (records.Next key grant) = is_at_start state.phase && (is_next_number key && is_next_number grant)
met_in state (records.Held key) = takes_rows state.phase && may_hold state.part key
met_in state (records.HeldGrant row) = takes_rows state.phase && may_hold_grant state.part row

-- ---- effects

-- the state after a record
abbrev pub after_in : ReadState → Record → ReadState
after_in state (records.Change change) = record { part = after state.part change; phase = AmongChanges }
after_in state (records.Next key grant) = record { part = record state.part { next_key = key; next_grant = grant }; phase = AmongRows }
after_in state (records.Held key) = record { part = record state.part { keys = state.part.keys ++ key ∷ [] }; phase = AmongRows }
after_in state (records.HeldGrant row) = record { part = record state.part { grants = state.part.grants ++ row ∷ [] }; phase = AmongRows }

-- the state after one record more, where its need is met
abbrev pub stepped : ReadState → Record → Option ReadState
stepped state it = if met_in state it then Some (after_in state it) else None

-- What records leave, the newest first: read in turn from the empty lasting part, each with its need met; None where a need is not.
abbrev pub state_of : List Record → Option ReadState
state_of [] = Some (record { part = empty_lasting; phase = AtStart })
state_of (it ∷ past) = option_and_then (λ state. stepped state it) (state_of past)
