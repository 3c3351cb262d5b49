-- Worked examples: what a few changes leave, and a few records of an area, the newest first.
use Rattle.std.specs.Prelude.{◌≡◌, ℕ, ◌+◌, ◌^◌, List, [], ◌∷◌, reverse, replicate, Option, None, Some}
use Rattle.grants.specs.declared.row.GrantRow.{GrantRow}
use Rattle.journal_records.specs.declared.change.Change.{Change}
use Rattle.journal_records.specs.declared.change.Change.TheVariants.{Create, Delete, Use, Grant, Ungrant, Clear, Removed, Upgrade}
use Rattle.journal_records.specs.declared.record.KeyRecord.{KeyRecord}
use Rattle.journal_records.specs.declared.record.Record.{Record}
use Rattle.journal_records.specs.declared.record.Record.TheVariants as records
use Rattle.journal_records.specs.LastingPart.{Lasting}
use Rattle.journal_records.specs.Effects.{lasting_of}
use Rattle.journal_records.specs.Spelling.{spelled}
use Rattle.journal_records.specs.States.{AmongChanges, AmongRows, AtStart, Phase, ReadState, state_of}
use Rattle.journal_records.specs.Storable.{snapshot, snapshot_length}

-- the key m of uid 10001, with an empty list and a use limit
abbrev pub create : ℕ → ℕ → Change
create id limit = Create id 0 10001 (109 ∷ []) (170 ∷ []) (0 ∷ 0 ∷ []) limit

abbrev pub key : ℕ → ℕ → ℕ → KeyRecord
key id limit left = record {
  id = id;
  domain = 0;
  nspace = 10001;
  alias = 109 ∷ [];
  blob = 170 ∷ [];
  list = 0 ∷ 0 ∷ [];
  limit = limit;
  left = left;
}

-- another blob and another list of a key
abbrev pub upgrade : ℕ → Change
upgrade id = Upgrade id (187 ∷ 204 ∷ []) (0 ∷ 1 ∷ 2 ∷ [])

abbrev pub renewed : KeyRecord → KeyRecord
renewed held = record held { blob = 187 ∷ 204 ∷ []; list = 0 ∷ 1 ∷ 2 ∷ [] }

-- a grant of key 1 to uid 10002
abbrev pub grant_row : ℕ → ℕ → GrantRow
grant_row number bits = record { grant = number; key = 1; uid = 10002; bits = bits }

abbrev pub left_by : List KeyRecord → List GrantRow → ℕ → ℕ → Option Lasting
left_by keys grants next_key next_grant =
    Some (record { keys = keys; grants = grants; next_key = next_key; next_grant = next_grant })

pub record WorkedExamples : Type 0 where
  pub nothing : lasting_of [] ≡ left_by [] [] 1 1
  -- keys and their uses
  pub made : lasting_of (create 1 2 ∷ []) ≡ left_by (key 1 2 2 ∷ []) [] 2 1
  pub used_once : lasting_of (Use 1 ∷ create 1 2 ∷ []) ≡ left_by (key 1 2 1 ∷ []) [] 2 1
  pub used_up : lasting_of (Use 1 ∷ Use 1 ∷ create 1 2 ∷ []) ≡ left_by [] [] 2 1
  pub no_use_left : lasting_of (Use 1 ∷ Use 1 ∷ Use 1 ∷ create 1 2 ∷ []) ≡ None
  pub no_limit_no_use : lasting_of (Use 1 ∷ create 1 0 ∷ []) ≡ None
  pub wrong_number : lasting_of (create 2 0 ∷ []) ≡ None
  pub number_again : lasting_of (create 1 0 ∷ create 1 0 ∷ []) ≡ None
  pub app_of_64_bits : lasting_of (Create 1 0 4294967296 (109 ∷ []) [] [] 0 ∷ []) ≡ None
  pub no_alias : lasting_of (Create 1 0 10001 [] [] [] 0 ∷ []) ≡ None
  pub no_such_domain : lasting_of (Create 1 1 10001 (109 ∷ []) [] [] 0 ∷ []) ≡ None
  -- the end of a key, and of its grants
  pub rebound : lasting_of (create 2 3 ∷ Grant (grant_row 1 256) ∷ create 1 2 ∷ []) ≡ left_by (key 2 3 3 ∷ []) [] 3 2
  pub deleted : lasting_of (Delete 1 ∷ Grant (grant_row 1 256) ∷ create 1 2 ∷ []) ≡ left_by [] [] 2 2
  pub no_such_key : lasting_of (Delete 2 ∷ create 1 2 ∷ []) ≡ None
  pub used_up_and_granted : lasting_of (Use 1 ∷ Grant (grant_row 1 256) ∷ Use 1 ∷ create 1 2 ∷ []) ≡ left_by [] [] 2 2
  pub cleared : lasting_of (Clear 0 10001 ∷ Grant (grant_row 1 256) ∷ create 1 2 ∷ []) ≡ left_by [] [] 2 2
  pub other_cleared : lasting_of (Clear 2 10001 ∷ create 1 2 ∷ []) ≡ left_by (key 1 2 2 ∷ []) [] 2 1
  pub no_domain_cleared : lasting_of (Clear 1 10001 ∷ create 1 2 ∷ []) ≡ None
  pub user_removed : lasting_of (Removed 0 ∷ Grant (grant_row 1 256) ∷ create 1 2 ∷ []) ≡ left_by [] [] 2 2
  pub other_removed : lasting_of (Removed 1 ∷ create 1 2 ∷ []) ≡ left_by (key 1 2 2 ∷ []) [] 2 1
  pub no_such_user : lasting_of (Removed 42950 ∷ []) ≡ None
  -- another blob and list: uses, alias and grants stay
  pub upgraded : lasting_of (upgrade 1 ∷ Use 1 ∷ Grant (grant_row 1 256) ∷ create 1 2 ∷ [])
      ≡ left_by (renewed (key 1 2 1) ∷ []) (grant_row 1 256 ∷ []) 2 2
  pub other_upgraded : lasting_of (upgrade 2 ∷ create 1 2 ∷ []) ≡ None
  pub ended_upgraded : lasting_of (upgrade 1 ∷ Delete 1 ∷ create 1 2 ∷ []) ≡ None
  pub longest : lasting_of (Upgrade 1 (replicate 6327 187) (replicate 4140 0) ∷ create 1 2 ∷ [])
      ≡ left_by (record (key 1 2 2) { blob = replicate 6327 187; list = replicate 4140 0 } ∷ []) [] 2 1
  pub long_blob : lasting_of (Upgrade 1 (replicate 6328 187) [] ∷ create 1 2 ∷ []) ≡ None
  pub long_list : lasting_of (Upgrade 1 [] (replicate 4141 0) ∷ create 1 2 ∷ []) ≡ None
  -- grants
  pub granted : lasting_of (Grant (grant_row 1 256) ∷ create 1 2 ∷ []) ≡ left_by (key 1 2 2 ∷ []) (grant_row 1 256 ∷ []) 2 2
  pub granted_again : lasting_of (Grant (grant_row 1 260) ∷ Grant (grant_row 1 256) ∷ create 1 2 ∷ [])
      ≡ left_by (key 1 2 2 ∷ []) (grant_row 1 260 ∷ []) 2 2
  pub other_number : lasting_of (Grant (grant_row 2 260) ∷ Grant (grant_row 1 256) ∷ create 1 2 ∷ []) ≡ None
  pub number_ahead : lasting_of (Grant (grant_row 2 256) ∷ create 1 2 ∷ []) ≡ None
  pub no_key_granted : lasting_of (Grant (grant_row 1 256) ∷ []) ≡ None
  pub ungranted : lasting_of (Ungrant 1 ∷ Grant (grant_row 1 256) ∷ create 1 2 ∷ []) ≡ left_by (key 1 2 2 ∷ []) [] 2 2
  pub granted_anew : lasting_of (Grant (grant_row 2 256) ∷ Ungrant 1 ∷ Grant (grant_row 1 256) ∷ create 1 2 ∷ [])
      ≡ left_by (key 1 2 2 ∷ []) (grant_row 2 256 ∷ []) 2 3
  pub no_such_grant : lasting_of (Ungrant 1 ∷ create 1 2 ∷ []) ≡ None

-- ---- records of an area

abbrev pub held : ℕ → ℕ → ℕ → Record
held id limit left = records.Held (key id limit left)

-- the key n of the same owner, without a limit
abbrev pub named_n : ℕ → KeyRecord
named_n id = record (key id 0 0) { alias = 110 ∷ [] }

-- a grant of a key to uid 10002
abbrev pub held_grant : ℕ → ℕ → Record
held_grant number id = records.HeldGrant (record { grant = number; key = id; uid = 10002; bits = 256 })

abbrev pub next : ℕ → ℕ → Record
next number grant = records.Next number grant

-- what a list of records leaves: these keys and grants, with the next numbers 5 and 4
abbrev pub state_with : List KeyRecord → List GrantRow → Phase → Option ReadState
state_with keys grants phase = Some (record { part = record { keys = keys; grants = grants; next_key = 5; next_grant = 4 }; phase = phase })

-- the key m with a use limit of 2 and one use left, the key n, and a grant of the key m
abbrev pub few : Lasting
few = record { keys = key 2 2 1 ∷ named_n 4 ∷ []; grants = record { grant = 3; key = 2; uid = 10002; bits = 256 } ∷ []; next_key = 5; next_grant = 4 }

pub record WorkedAreas : Type 0 where
  pub nothing : state_of [] ≡ Some (record { part = record { keys = []; grants = []; next_key = 1; next_grant = 1 }; phase = AtStart })
  -- rows, and changes behind them
  pub numbers : state_of (next 5 4 ∷ []) ≡ state_with [] [] AmongRows
  pub held_used : state_of (held 2 2 1 ∷ next 5 4 ∷ []) ≡ state_with (key 2 2 1 ∷ []) [] AmongRows
  pub held_unlimited : state_of (held 4 0 0 ∷ next 5 4 ∷ []) ≡ state_with (key 4 0 0 ∷ []) [] AmongRows
  pub of_few : state_of (reverse (snapshot few)) ≡ Some (record { part = few; phase = AmongRows })
  pub few_bytes : snapshot_length few ≡ 146
  pub used_behind : state_of (records.Change (Use 2) ∷ held_grant 3 2 ∷ held 2 2 2 ∷ next 5 4 ∷ [])
      ≡ state_with (key 2 2 1 ∷ []) (record { grant = 3; key = 2; uid = 10002; bits = 256 } ∷ []) AmongChanges
  pub made_behind : state_of (records.Change (create 5 2) ∷ held 2 2 2 ∷ next 5 4 ∷ [])
      ≡ Some (record { part = record { keys = key 5 2 2 ∷ []; grants = []; next_key = 6; next_grant = 4 }; phase = AmongChanges })
  pub upgraded_behind : state_of (records.Change (upgrade 2) ∷ held_grant 3 2 ∷ held 2 2 1 ∷ next 5 4 ∷ [])
      ≡ state_with (renewed (key 2 2 1) ∷ []) (record { grant = 3; key = 2; uid = 10002; bits = 256 } ∷ []) AmongChanges
  -- the next numbers
  pub next_not_first : state_of (next 5 4 ∷ next 5 4 ∷ []) ≡ None
  pub next_behind_change : state_of (next 5 4 ∷ records.Change (create 1 2) ∷ []) ≡ None
  pub next_zero : state_of (next 0 4 ∷ []) ≡ None
  pub next_grant_zero : state_of (next 5 0 ∷ []) ≡ None
  pub next_greatest : state_of (next (2 ^ 63) (2 ^ 63) ∷ [])
      ≡ Some (record { part = record { keys = []; grants = []; next_key = 2 ^ 63; next_grant = 2 ^ 63 }; phase = AmongRows })
  pub next_above : state_of (next (2 ^ 63 + 1) 4 ∷ []) ≡ None
  pub next_grant_above : state_of (next 5 (2 ^ 63 + 1) ∷ []) ≡ None
  -- keys
  pub no_numbers : state_of (held 1 2 1 ∷ []) ≡ None
  pub key_zero : state_of (held 0 2 1 ∷ next 5 4 ∷ []) ≡ None
  pub key_at_next : state_of (held 5 2 1 ∷ next 5 4 ∷ []) ≡ None
  pub key_not_above : state_of (records.Held (named_n 2) ∷ held 2 2 1 ∷ next 5 4 ∷ []) ≡ None
  pub key_below : state_of (records.Held (named_n 1) ∷ held 2 2 1 ∷ next 5 4 ∷ []) ≡ None
  pub key_behind_change : state_of (records.Held (named_n 4) ∷ records.Change (Use 2) ∷ held 2 2 2 ∷ next 5 4 ∷ []) ≡ None
  pub left_above : state_of (held 2 2 3 ∷ next 5 4 ∷ []) ≡ None
  pub none_left : state_of (held 2 2 0 ∷ next 5 4 ∷ []) ≡ None
  pub left_unlimited : state_of (held 2 0 1 ∷ next 5 4 ∷ []) ≡ None
  pub named_twice : state_of (held 3 0 0 ∷ held 2 2 1 ∷ next 5 4 ∷ []) ≡ None
  pub no_alias : state_of (records.Held (record (key 2 2 1) { alias = [] }) ∷ next 5 4 ∷ []) ≡ None
  pub long_alias : state_of (records.Held (record (key 2 2 1) { alias = replicate 257 109 }) ∷ next 5 4 ∷ []) ≡ None
  pub longest_alias : state_of (records.Held (record (key 2 2 1) { alias = replicate 256 109 }) ∷ next 5 4 ∷ [])
      ≡ state_with (record (key 2 2 1) { alias = replicate 256 109 } ∷ []) [] AmongRows
  pub app_of_64_bits : state_of (records.Held (record (key 2 2 1) { nspace = 4294967296 }) ∷ next 5 4 ∷ []) ≡ None
  pub no_such_domain : state_of (records.Held (record (key 2 2 1) { domain = 1 }) ∷ next 5 4 ∷ []) ≡ None
  -- grants
  pub grant_zero : state_of (held_grant 0 2 ∷ held 2 2 1 ∷ next 5 4 ∷ []) ≡ None
  pub grant_at_next : state_of (held_grant 4 2 ∷ held 2 2 1 ∷ next 5 4 ∷ []) ≡ None
  pub grant_not_above : state_of (held_grant 3 4 ∷ held_grant 3 2 ∷ records.Held (named_n 4) ∷ held 2 2 1 ∷ next 5 4 ∷ []) ≡ None
  pub granted_twice : state_of (held_grant 3 2 ∷ held_grant 2 2 ∷ held 2 2 1 ∷ next 5 4 ∷ []) ≡ None
  pub no_key_granted : state_of (held_grant 3 4 ∷ held 2 2 1 ∷ next 5 4 ∷ []) ≡ None
  pub grant_behind_change : state_of (held_grant 3 2 ∷ records.Change (Use 2) ∷ held 2 2 2 ∷ next 5 4 ∷ []) ≡ None
  -- a key's other blob and list in bytes: the kind 11, the number, and both behind their lengths
  pub upgrade_bytes : spelled (records.Change (upgrade 2) ∷ [])
      ≡ 75 ∷ 0 ∷ 0 ∷ 0 ∷ 22 ∷ 11 ∷ 0 ∷ 0 ∷ 0 ∷ 0 ∷ 0 ∷ 0 ∷ 0 ∷ 2 ∷ 0 ∷ 0 ∷ 0 ∷ 2 ∷ 187 ∷ 204 ∷ 0 ∷ 0 ∷ 0 ∷ 3 ∷ 0 ∷ 1 ∷ 2 ∷ []
  -- the snapshot of nothing in bytes: 4b, a length of 17, the kind 8 and both numbers
  pub empty_bytes : spelled (next 1 1 ∷ [])
      ≡ 75 ∷ 0 ∷ 0 ∷ 0 ∷ 17 ∷ 8 ∷ 0 ∷ 0 ∷ 0 ∷ 0 ∷ 0 ∷ 0 ∷ 0 ∷ 1 ∷ 0 ∷ 0 ∷ 0 ∷ 0 ∷ 0 ∷ 0 ∷ 0 ∷ 1 ∷ []
