-- What a change makes of the lasting part, and what a list of changes leaves.
use Rattle.std.specs.Prelude.{ℕ, ◌+◌, ◌-◌, Bool, not, ◌==◌, ◌&&◌, List, [], ◌∷◌, ◌++◌, map, filter, find, Option, None, Some, if◌then◌else◌}
use Rattle.std.specs.Option.{option_and_then}
use Rattle.grants.specs.declared.row.GrantRow.{GrantRow}
use Rattle.grants.specs.Rows.{is_numbered, is_for, with_bits}
use Rattle.journal_records.specs.declared.change.Change.{Change}
use Rattle.journal_records.specs.declared.change.Change.TheVariants.{Create, Delete, Use, Grant, Ungrant, Clear, Removed, Upgrade}
use Rattle.journal_records.specs.declared.record.KeyRecord.{KeyRecord}
use Rattle.journal_records.specs.LastingPart.{Lasting, empty_lasting, has_id, is_owned, is_named, is_of_user, without_keys}
use Rattle.journal_records.specs.Needs.{is_met}

-- a new key, behind the others; it ends the key under the same owner and alias, and has all its uses left
abbrev pub with_key : KeyRecord → Lasting → Lasting
with_key key part = let rest = without_keys (is_named key.domain key.nspace key.alias) part in record rest {
  keys = rest.keys ++ key ∷ [];
  next_key = key.id + 1;
}

-- the key of a number has one use less
abbrev pub with_use : ℕ → KeyRecord → KeyRecord
with_use id key = if has_id id key then record key { left = key.left - 1 } else key

-- whether a use of this key is its last
abbrev pub is_last_use : ℕ → KeyRecord → Bool
is_last_use id key = has_id id key && (key.left == 1)

-- the key of a number is used once: its last use ends it
abbrev pub used : ℕ → Lasting → Lasting
used id part = let rest = without_keys (is_last_use id) part in record rest { keys = map (with_use id) rest.keys }

-- the grant that a key and a uid have gets the new bits and keeps its number; where there is none the row is added
abbrev pub granted : Option GrantRow → GrantRow → Lasting → Lasting
granted (Some held) row part = record part { grants = map (with_bits row.key row.uid row.bits) part.grants }
granted None row part = record part { grants = part.grants ++ row ∷ []; next_grant = row.grant + 1 }

-- the key of a number has this blob and this list
abbrev pub with_blob : ℕ → List ℕ → List ℕ → KeyRecord → KeyRecord
with_blob id blob list key = if has_id id key then record key { blob = blob; list = list } else key

-- the key of a number has another blob and another list, and stays the same in all else
abbrev pub upgraded : ℕ → List ℕ → List ℕ → Lasting → Lasting
upgraded id blob list part = record part { keys = map (with_blob id blob list) part.keys }

-- the lasting part after a change
abbrev pub after : Lasting → Change → Lasting
after part (Create id domain nspace alias blob list limit) = with_key (record {
  id = id;
  domain = domain;
  nspace = nspace;
  alias = alias;
  blob = blob;
  list = list;
  limit = limit;
  left = limit;
}) part
after part (Delete id) = without_keys (has_id id) part
after part (Use id) = used id part
after part (Grant row) = granted (find (is_for row.key row.uid) part.grants) row part
after part (Ungrant grant) = record part { grants = filter (λ row. not (is_numbered grant row)) part.grants }
after part (Clear domain nspace) = without_keys (is_owned domain nspace) part
after part (Removed user) = without_keys (is_of_user user) part
after part (Upgrade id blob list) = upgraded id blob list part

-- the lasting part after one change more, where its need is met
abbrev pub changed : Lasting → Change → Option Lasting
changed part change = if is_met part change then Some (after part change) else None

-- What changes leave, the newest first: made in turn from the empty lasting part, each with its need met; None
-- where a need is not.
abbrev pub lasting_of : List Change → Option Lasting
lasting_of [] = Some empty_lasting
lasting_of (change ∷ past) = option_and_then (λ part. changed part change) (lasting_of past)
