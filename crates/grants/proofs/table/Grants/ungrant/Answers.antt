use Rattle.std.proofs.Common.{◌≡◌, List, ◌++◌, Option, Some, None, refl, sym, ◌∙◌, subst, not}
use Rattle.std.specs.Prelude.{filter}
use Rattle.std.proofs.lemmas.Bool.{eq-eqb}
use Rattle.grants.specs.declared.row.GrantRow.{GrantRow}
use Rattle.grants.specs.Rows.{IsTable, is_numbered}
use Rattle.grants.specs.Table.{Table}
use Rattle.grants.specs.Newest.{listed, places}
use Rattle.grants.proofs.Ordered.{table_filter}
use Rattle.grants.proofs.Granting.{left_by_number, left_by_key, out_of_maps, out_at_newest, stays_whole, none_in_whole, none_at_newest, found_in_maps, found_at_newest}
use Rattle.grants.proofs.table.Grants.ungrant.Goals as goal

abbrev table_of : List GrantRow → Option GrantRow → Table
table_of rows newest = record { rows = rows ++ listed newest; spare = places newest }

-- ---- a row of the maps

rows_of_maps : (c : goal.In-Some) → c.remove.new.self ++ listed (c.self.inside.newest) ≡ filter (λ row. not (is_numbered c.args.grant row)) (c.self.inside.maps ++ listed (c.self.inside.newest))
rows_of_maps c = out_of_maps c.args.grant c.self.inside.maps c.remove.new.self c.self.inside.newest c.in-Some.row c.self.invariant (sym c.remove.ensures.found ∙ c.in-Some.is) c.remove.ensures.rows

table_of_maps : (c : goal.In-Some) → IsTable (c.self.inside.maps ++ listed (c.self.inside.newest))
table_of_maps c = c.self.invariant

pub invariant_of-self : goal.invariant_of-self
invariant_of-self c = subst IsTable (sym (rows_of_maps c)) (table_filter (λ row. not (is_numbered c.args.grant row)) (c.self.inside.maps ++ listed (c.self.inside.newest)) (table_of_maps c))

pub returns-in-Some-clause-found : goal.returns-in-Some-clause-found
returns-in-Some-clause-found c = rw (← c.self.view_is) (sym (found_in_maps c.args.grant c.self.inside.maps c.self.inside.newest c.in-Some.row (sym c.remove.ensures.found ∙ c.in-Some.is)))

pub returns-in-Some-clause-out : goal.returns-in-Some-clause-out
returns-in-Some-clause-out c = rw (← c.self.view_is) (rows_of_maps c)

pub returns-in-Some-clause-by_number : goal.returns-in-Some-clause-by_number
returns-in-Some-clause-by_number c = rw (← c.self.view_is) (left_by_number (is_numbered c.args.grant) (table_of c.self.inside.maps (c.self.inside.newest)) (table_of c.remove.new.self (c.self.inside.newest)) (table_of_maps c) (rows_of_maps c))

pub returns-in-Some-clause-by_key : goal.returns-in-Some-clause-by_key
returns-in-Some-clause-by_key c = rw (← c.self.view_is) (left_by_key (is_numbered c.args.grant) (table_of c.self.inside.maps (c.self.inside.newest)) (table_of c.remove.new.self (c.self.inside.newest)) (table_of_maps c) (rows_of_maps c))

-- ---- there is no newest row

rows_of_none : (c : goal.In_default-newest) → c.remove.new.self ++ listed (c.self.inside.newest) ≡ filter (λ row. not (is_numbered c.args.grant row)) (c.self.inside.maps ++ listed (c.self.inside.newest))
rows_of_none c = stays_whole c.args.grant c.self.inside.maps c.remove.new.self c.self.inside.newest (sym c.remove.ensures.found ∙ c.in_default.is) (rw c.in_default-newest.is refl) c.remove.ensures.rows

table_of_none : (c : goal.In_default-newest) → IsTable (c.self.inside.maps ++ listed (c.self.inside.newest))
table_of_none c = c.self.invariant

pub invariant_of-self-in_default-newest : goal.invariant_of-self-in_default-newest
invariant_of-self-in_default-newest c = subst IsTable (sym (rows_of_none c)) (table_filter (λ row. not (is_numbered c.args.grant row)) (c.self.inside.maps ++ listed (c.self.inside.newest)) (table_of_none c))

pub returns-in_default-newest-clause-by_number : goal.returns-in_default-newest-clause-by_number
returns-in_default-newest-clause-by_number c = rw (← c.self.view_is) (left_by_number (is_numbered c.args.grant) (table_of c.self.inside.maps (c.self.inside.newest)) (table_of c.remove.new.self (c.self.inside.newest)) (table_of_none c) (rows_of_none c))

pub returns-in_default-newest-clause-by_key : goal.returns-in_default-newest-clause-by_key
returns-in_default-newest-clause-by_key c = rw (← c.self.view_is) (left_by_key (is_numbered c.args.grant) (table_of c.self.inside.maps (c.self.inside.newest)) (table_of c.remove.new.self (c.self.inside.newest)) (table_of_none c) (rows_of_none c))

-- ---- the newest row has another number

rows_of_other : (c : goal.Then-newest-grant) → c.remove.new.self ++ listed (c.self.inside.newest) ≡ filter (λ row. not (is_numbered c.args.grant row)) (c.self.inside.maps ++ listed (c.self.inside.newest))
rows_of_other c = stays_whole c.args.grant c.self.inside.maps c.remove.new.self c.self.inside.newest (sym c.remove.ensures.found ∙ c.in_default.is) (none_at_newest c.args.grant c.self.inside.newest c.in-Some-newest.newest c.in-Some-newest.is c.if-newest-grant.true) c.remove.ensures.rows

table_of_other : (c : goal.Then-newest-grant) → IsTable (c.self.inside.maps ++ listed (c.self.inside.newest))
table_of_other c = c.self.invariant

pub invariant_of-self-then-newest-grant : goal.invariant_of-self-then-newest-grant
invariant_of-self-then-newest-grant c = subst IsTable (sym (rows_of_other c)) (table_filter (λ row. not (is_numbered c.args.grant row)) (c.self.inside.maps ++ listed (c.self.inside.newest)) (table_of_other c))

pub returns-then-newest-grant-clause-found : goal.returns-then-newest-grant-clause-found
returns-then-newest-grant-clause-found c = rw (← c.self.view_is) (sym (none_in_whole c.args.grant c.self.inside.maps c.self.inside.newest (sym c.remove.ensures.found ∙ c.in_default.is) (none_at_newest c.args.grant c.self.inside.newest c.in-Some-newest.newest c.in-Some-newest.is c.if-newest-grant.true)))

pub returns-then-newest-grant-clause-by_number : goal.returns-then-newest-grant-clause-by_number
returns-then-newest-grant-clause-by_number c = rw (← c.self.view_is) (left_by_number (is_numbered c.args.grant) (table_of c.self.inside.maps (c.self.inside.newest)) (table_of c.remove.new.self (c.self.inside.newest)) (table_of_other c) (rows_of_other c))

pub returns-then-newest-grant-clause-by_key : goal.returns-then-newest-grant-clause-by_key
returns-then-newest-grant-clause-by_key c = rw (← c.self.view_is) (left_by_key (is_numbered c.args.grant) (table_of c.self.inside.maps (c.self.inside.newest)) (table_of c.remove.new.self (c.self.inside.newest)) (table_of_other c) (rows_of_other c))

-- ---- the newest row

rows_of_newest : (c : goal.After-self-1) → c.remove.new.self ++ listed (None) ≡ filter (λ row. not (is_numbered c.args.grant row)) (c.self.inside.maps ++ listed (Some c.in-Some-newest.newest))
rows_of_newest c = out_at_newest c.args.grant c.self.inside.maps c.remove.new.self c.in-Some-newest.newest (sym c.remove.ensures.found ∙ c.in_default.is) (eq-eqb c.in-Some-newest.newest.grant c.args.grant c.if-newest-grant.false) c.remove.ensures.rows

table_of_newest : (c : goal.After-self-1) → IsTable (c.self.inside.maps ++ listed (Some c.in-Some-newest.newest))
table_of_newest c = rw c.in-Some-newest.is at c.self.invariant

pub invariant_of-self-2 : goal.invariant_of-self-2
invariant_of-self-2 c = subst IsTable (sym (rows_of_newest c)) (table_filter (λ row. not (is_numbered c.args.grant row)) (c.self.inside.maps ++ listed (Some c.in-Some-newest.newest)) (table_of_newest c))

pub returns-clause-found : goal.returns-clause-found
returns-clause-found c = rw (← c.self.view_is, c.in-Some-newest.is) (sym (found_at_newest c.args.grant c.self.inside.maps c.in-Some-newest.newest (sym c.remove.ensures.found ∙ c.in_default.is) c.if-newest-grant.false))

pub returns-clause-by_number : goal.returns-clause-by_number
returns-clause-by_number c = rw (← c.self.view_is, c.in-Some-newest.is) (left_by_number (is_numbered c.args.grant) (table_of c.self.inside.maps (Some c.in-Some-newest.newest)) (table_of c.remove.new.self (None)) (table_of_newest c) (rows_of_newest c))

pub returns-clause-by_key : goal.returns-clause-by_key
returns-clause-by_key c = rw (← c.self.view_is, c.in-Some-newest.is) (left_by_key (is_numbered c.args.grant) (table_of c.self.inside.maps (Some c.in-Some-newest.newest)) (table_of c.remove.new.self (None)) (table_of_newest c) (rows_of_newest c))
