use Rattle.std.proofs.Common.{◌≡◌, length, not}
use Rattle.std.specs.List.{filter}
use Rattle.grants.specs.Rows.{is_past}
use Rattle.lasting_table.proofs.compared.same_grants.Given as goal

-- up to past both have the same grants
abbrev pub invariant-rows : goal.invariant-rows
invariant-rows l = filter (λ row. not (is_past l.past row)) l.grants.rows ≡ filter (λ row. not (is_past l.past row)) l.other.rows

abbrev pub decreases-rows : goal.decreases-rows
decreases-rows l = length (filter (is_past l.past) l.grants.rows)
