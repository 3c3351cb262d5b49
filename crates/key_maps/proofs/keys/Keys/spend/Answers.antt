use Rattle.std.proofs.Common.{◌≡◌, ℕ, ◌-◌, ◌++◌, [], ◌∷◌, Some, sym, ◌∙◌, subst, refl}
use Rattle.std.proofs.lemmas.Bool.{eq-eqb}
use Rattle.journal_records.specs.declared.record.KeyRecord.{KeyRecord}
use Rattle.journal_records.specs.Effects.{with_use}
use Rattle.key_maps.specs.Rows.{AreRows}
use Rattle.key_maps.specs.Table.{listed}
use Rattle.key_maps.proofs.KeyRows.{rows_changed, use_changes}
use Rattle.key_maps.proofs.Whole.{changed_at_newest, changed_elsewhere, changed_in_maps, other_newest}
use Rattle.key_maps.proofs.keys.Keys.spend.Goals as goal

pub invariant_of-self : goal.invariant_of-self
invariant_of-self c =
    subst AreRows (sym (changed_in_maps c.args.id (with_use c.args.id) (use_changes c.args.id) c.self.inside.maps c.spend.new.self c.self.inside.newest c.self.invariant (sym c.spend.ensures.held ∙ c.if-spend.true) c.spend.ensures.rows))
    (rows_changed (with_use c.args.id) (use_changes c.args.id).names (c.self.inside.maps ++ listed c.self.inside.newest) c.self.invariant)

pub returns-then-spend-clause-rows : goal.returns-then-spend-clause-rows
returns-then-spend-clause-rows c =
    rw (← c.self.view_is) (changed_in_maps c.args.id (with_use c.args.id) (use_changes c.args.id) c.self.inside.maps c.spend.new.self c.self.inside.newest c.self.invariant (sym c.spend.ensures.held ∙ c.if-spend.true) c.spend.ensures.rows)

pub invariant_of-self-in_default : goal.invariant_of-self-in_default
invariant_of-self-in_default c =
    subst AreRows (sym (changed_elsewhere c.args.id (with_use c.args.id) (use_changes c.args.id) c.self.inside.maps c.spend.new.self c.self.inside.newest (rw c.in_default.is tt) c.spend.ensures.rows))
    (rows_changed (with_use c.args.id) (use_changes c.args.id).names (c.self.inside.maps ++ listed c.self.inside.newest) c.self.invariant)

pub invariant_of-self-then-newest-id : goal.invariant_of-self-then-newest-id
invariant_of-self-then-newest-id c =
    subst AreRows (sym (changed_elsewhere c.args.id (with_use c.args.id) (use_changes c.args.id) c.self.inside.maps c.spend.new.self (Some c.in-Some.newest) (other_newest c.args.id c.in-Some.newest c.if-newest-id.true) c.spend.ensures.rows))
    (rows_changed (with_use c.args.id) (use_changes c.args.id).names (c.self.inside.maps ++ c.in-Some.newest ∷ []) (rw c.in-Some.is at c.self.invariant))

used_newest : (id : ℕ) (key : KeyRecord) (left : ℕ) → key.id ≡ id → left ≡ key.left - 1 → record key { left = left } ≡ with_use id key
used_newest id key left here e = rw (e, eq-eqb key.id id here) refl

pub invariant_of-self-2 : goal.invariant_of-self-2
invariant_of-self-2 c =
    let used : KeyRecord = record (c.in-Some.newest) { left = c.saturating_sub-newest.result } in
    subst AreRows (sym (changed_at_newest c.args.id (with_use c.args.id) (use_changes c.args.id) c.self.inside.maps c.spend.new.self c.in-Some.newest used (used_newest c.args.id c.in-Some.newest c.saturating_sub-newest.result c.if-newest-id.false c.saturating_sub-newest.ensures) c.spend.ensures.rows))
    (rows_changed (with_use c.args.id) (use_changes c.args.id).names (c.self.inside.maps ++ c.in-Some.newest ∷ []) (rw c.in-Some.is at c.self.invariant))

pub returns-in_default-clause-rows : goal.returns-in_default-clause-rows
returns-in_default-clause-rows c =
    rw (← c.self.view_is) (changed_elsewhere c.args.id (with_use c.args.id) (use_changes c.args.id) c.self.inside.maps c.spend.new.self c.self.inside.newest (rw c.in_default.is tt) c.spend.ensures.rows)

pub returns-then-newest-id-clause-rows : goal.returns-then-newest-id-clause-rows
returns-then-newest-id-clause-rows c =
    rw (← c.self.view_is, c.in-Some.is) (changed_elsewhere c.args.id (with_use c.args.id) (use_changes c.args.id) c.self.inside.maps c.spend.new.self (Some c.in-Some.newest) (other_newest c.args.id c.in-Some.newest c.if-newest-id.true) c.spend.ensures.rows)

pub returns-clause-rows : goal.returns-clause-rows
returns-clause-rows c =
    let used : KeyRecord = record (c.in-Some.newest) { left = c.saturating_sub-newest.result } in
    rw (← c.self.view_is, c.in-Some.is) (changed_at_newest c.args.id (with_use c.args.id) (use_changes c.args.id) c.self.inside.maps c.spend.new.self c.in-Some.newest used (used_newest c.args.id c.in-Some.newest c.saturating_sub-newest.result c.if-newest-id.false c.saturating_sub-newest.ensures) c.spend.ensures.rows)
