use Rattle.std.specs.Prelude.{ℕ, Bool, ◌==◌, ◌&&◌, List, Option, find}
use Rattle.std.specs.Option.{option_map}
use Rattle.tags.specs.declared.policy.PolicyRow.{PolicyRow}

-- whether a row speaks of this uid and namespace
abbrev pub is_of : ℕ → ℕ → PolicyRow → Bool
is_of uid nspace row = (row.uid == uid) && (row.nspace == nspace)

-- the bits of a uid in a namespace: those of the first row that speaks of both
abbrev pub bits_of : List PolicyRow → ℕ → ℕ → Option ℕ
bits_of rows uid nspace = option_map (λ (row : PolicyRow). row.bits) (find (is_of uid nspace) rows)
