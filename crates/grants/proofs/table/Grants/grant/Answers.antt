use Rattle.std.proofs.Common.{◌≡◌, ◌<◌, List, ◌++◌, [], ◌∷◌, Option, true, false, Some, None, sym, ◌∙◌, ap, subst}
use Rattle.std.specs.Prelude.{map, find, is_some}
use Rattle.grants.specs.declared.row.GrantRow.{GrantRow}
use Rattle.grants.specs.Rows.{IsTable, is_for, with_bits}
use Rattle.grants.specs.Table.{Table, IsNew, IsHeld, IsNext}
use Rattle.grants.specs.Newest.{listed, places}
use Rattle.grants.proofs.Ordered.{table_bits, table_more}
use Rattle.grants.proofs.Granting.{rows_in_maps, held_in_maps, is_newest, rows_at_newest, held_at_newest, rows_unchanged, new_in_maps, before_added, added_by_number, added_by_key, bits_by_number, bits_by_key, bits_below, added_below}
use Rattle.grants.proofs.table.Grants.grant.Goals as goal

abbrev table_of : List GrantRow → Option GrantRow → Table
table_of rows newest = record { rows = rows ++ listed newest; spare = places newest }

-- ---- the row of the maps takes the bits

rows_in : (c : goal.Then-set_bits) → c.set_bits.new.self ++ listed c.self.inside.newest ≡ map (with_bits c.args.row.key c.args.row.uid c.args.row.bits) (c.self.inside.maps ++ listed c.self.inside.newest)
rows_in c = rows_in_maps c.args.row c.self.inside.maps c.set_bits.new.self c.self.inside.newest c.self.invariant c.set_bits.ensures.rows (sym c.set_bits.ensures.held ∙ c.if-set_bits.true)

held_in : (c : goal.Then-set_bits) → IsHeld (table_of c.self.inside.maps c.self.inside.newest) c.args.row
held_in c = held_in_maps c.args.row c.self.inside.maps c.self.inside.newest (sym c.set_bits.ensures.held ∙ c.if-set_bits.true)

pub invariant_of-self : goal.invariant_of-self
invariant_of-self c = subst IsTable (sym (rows_in c)) (table_bits c.args.row.key c.args.row.uid c.args.row.bits (c.self.inside.maps ++ listed c.self.inside.newest) c.self.invariant)

pub returns-then-set_bits-clause-replaced : goal.returns-then-set_bits-clause-replaced
returns-then-set_bits-clause-replaced c = λ held. rw (← c.self.view_is) (rows_in c)

pub returns-then-set_bits-clause-by_number : goal.returns-then-set_bits-clause-by_number
returns-then-set_bits-clause-by_number c =
    rw (← c.self.view_is) (bits_by_number (table_of c.self.inside.maps c.self.inside.newest) (table_of c.set_bits.new.self c.self.inside.newest) c.args.row c.self.invariant (held_in c) (rows_in c))

pub returns-then-set_bits-clause-by_key : goal.returns-then-set_bits-clause-by_key
returns-then-set_bits-clause-by_key c =
    rw (← c.self.view_is) (bits_by_key (table_of c.self.inside.maps c.self.inside.newest) (table_of c.set_bits.new.self c.self.inside.newest) c.args.row (held_in c) (rows_in c))

-- ---- the newest row takes the bits

absent_at : (c : goal.After-self-in-Some-1) → is_some (find (is_for c.args.row.key c.args.row.uid) c.self.inside.maps) ≡ false
absent_at c = sym c.set_bits.ensures.held ∙ c.if-set_bits.false

room_at : (c : goal.After-self-in-Some-1) → IsNew (table_of c.self.inside.maps (Some c.in-Some.newest)) c.args.row → 0 < 0
room_at c = (rw (← c.self.view_is, c.in-Some.is) at c.requires.room)

newest_at : (c : goal.After-self-in-Some-1) → is_for c.args.row.key c.args.row.uid c.in-Some.newest ≡ true
newest_at c = is_newest c.args.row c.self.inside.maps c.in-Some.newest (absent_at c) (room_at c)

held_at : (c : goal.After-self-in-Some-1) → IsHeld (table_of c.self.inside.maps (Some c.in-Some.newest)) c.args.row
held_at c = held_at_newest c.args.row c.self.inside.maps c.in-Some.newest (absent_at c) (newest_at c)

rows_at : (c : goal.After-self-in-Some-1) → c.set_bits.new.self ++ (record (c.in-Some.newest) { bits = c.args.row.bits }) ∷ [] ≡ map (with_bits c.args.row.key c.args.row.uid c.args.row.bits) (c.self.inside.maps ++ c.in-Some.newest ∷ [])
rows_at c = rows_at_newest c.args.row c.self.inside.maps c.set_bits.new.self c.in-Some.newest c.set_bits.ensures.rows (newest_at c)

table_at : (c : goal.After-self-in-Some-1) → IsTable (c.self.inside.maps ++ c.in-Some.newest ∷ [])
table_at c = rw c.in-Some.is at c.self.invariant

pub invariant_of-self-in-Some : goal.invariant_of-self-in-Some
invariant_of-self-in-Some c = subst IsTable (sym (rows_at c)) (table_bits c.args.row.key c.args.row.uid c.args.row.bits (c.self.inside.maps ++ c.in-Some.newest ∷ []) (table_at c))

pub returns-in-Some-clause-replaced : goal.returns-in-Some-clause-replaced
returns-in-Some-clause-replaced c = λ held. rw (← c.self.view_is, c.in-Some.is) (rows_at c)

pub returns-in-Some-clause-by_number : goal.returns-in-Some-clause-by_number
returns-in-Some-clause-by_number c =
    rw (← c.self.view_is, c.in-Some.is) (bits_by_number (table_of c.self.inside.maps (Some c.in-Some.newest)) (table_of c.set_bits.new.self (Some (record (c.in-Some.newest) { bits = c.args.row.bits }))) c.args.row (table_at c) (held_at c) (rows_at c))

pub returns-in-Some-clause-by_key : goal.returns-in-Some-clause-by_key
returns-in-Some-clause-by_key c =
    rw (← c.self.view_is, c.in-Some.is) (bits_by_key (table_of c.self.inside.maps (Some c.in-Some.newest)) (table_of c.set_bits.new.self (Some (record (c.in-Some.newest) { bits = c.args.row.bits }))) c.args.row (held_at c) (rows_at c))

-- ---- the row is added

absent : (c : goal.After-self-2-1) → is_some (find (is_for c.args.row.key c.args.row.uid) c.self.inside.maps) ≡ false
absent c = sym c.set_bits.ensures.held ∙ c.if-set_bits.false

is_new : (c : goal.After-self-2-1) → IsNew (table_of c.self.inside.maps None) c.args.row
is_new c = new_in_maps c.args.row c.self.inside.maps (absent c)

rows_same : (c : goal.After-self-2-1) → c.set_bits.new.self ≡ c.self.inside.maps ++ []
rows_same c = rows_unchanged c.args.row c.self.inside.maps c.set_bits.new.self c.set_bits.ensures.rows (absent c)

is_next : (c : goal.After-self-2-1) → IsNext (table_of c.self.inside.maps None) c.args.row
is_next c = (rw (← c.self.view_is, c.in_default.is) at c.requires.next) (is_new c)

pub invariant_of-self-2 : goal.invariant_of-self-2
invariant_of-self-2 c =
    rw (rows_same c) (table_more (c.self.inside.maps ++ []) c.args.row (rw c.in_default.is at c.self.invariant) (before_added (table_of c.self.inside.maps None) c.args.row (is_new c) (is_next c)))

pub returns-clause-added : goal.returns-clause-added
returns-clause-added c = λ is_new. rw (← c.self.view_is, c.in_default.is) (ap (λ rows. rows ++ c.args.row ∷ []) (rows_same c))

pub returns-clause-by_number : goal.returns-clause-by_number
returns-clause-by_number c =
    rw (← c.self.view_is, c.in_default.is) (added_by_number (table_of c.self.inside.maps None) (table_of c.set_bits.new.self (Some c.args.row)) c.args.row (is_new c) (is_next c) (ap (λ rows. rows ++ c.args.row ∷ []) (rows_same c)))

pub returns-clause-by_key : goal.returns-clause-by_key
returns-clause-by_key c =
    rw (← c.self.view_is, c.in_default.is) (added_by_key (table_of c.self.inside.maps None) (table_of c.set_bits.new.self (Some c.args.row)) c.args.row (is_new c) (is_next c) (ap (λ rows. rows ++ c.args.row ∷ []) (rows_same c)))

-- ---- the numbers stay below

pub returns-then-set_bits-clause-below : goal.returns-then-set_bits-clause-below
returns-then-set_bits-clause-below c =
    rw (← c.self.view_is) (bits_below (table_of c.self.inside.maps c.self.inside.newest) (table_of c.set_bits.new.self c.self.inside.newest) c.args.row (rows_in c))

pub returns-in-Some-clause-below : goal.returns-in-Some-clause-below
returns-in-Some-clause-below c =
    rw (← c.self.view_is, c.in-Some.is) (bits_below (table_of c.self.inside.maps (Some c.in-Some.newest)) (table_of c.set_bits.new.self (Some (record (c.in-Some.newest) { bits = c.args.row.bits }))) c.args.row (rows_at c))

pub returns-clause-below : goal.returns-clause-below
returns-clause-below c =
    rw (← c.self.view_is, c.in_default.is) (added_below (table_of c.self.inside.maps None) (table_of c.set_bits.new.self (Some c.args.row)) c.args.row (is_new c) (ap (λ rows. rows ++ c.args.row ∷ []) (rows_same c)))
