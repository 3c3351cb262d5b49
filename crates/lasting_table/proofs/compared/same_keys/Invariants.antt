use Rattle.std.proofs.Common.{◌≡◌, length, not}
use Rattle.std.specs.List.{filter}
use Rattle.key_maps.specs.Rows.{is_past}
use Rattle.lasting_table.proofs.compared.same_keys.Given as goal

-- up to past both have the same keys
abbrev pub invariant-keys : goal.invariant-keys
invariant-keys l = filter (λ key. not (is_past l.past key)) l.keys.rows ≡ filter (λ key. not (is_past l.past key)) l.other.rows

abbrev pub decreases-keys : goal.decreases-keys
decreases-keys l = length (filter (is_past l.past) l.keys.rows)
