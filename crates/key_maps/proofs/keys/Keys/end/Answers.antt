use Rattle.std.proofs.Common.{◌++◌, [], ◌∷◌, sym, ◌∙◌, subst, not}
use Rattle.journal_records.specs.LastingPart.{has_id}
use Rattle.key_maps.specs.Rows.{AreRows}
use Rattle.key_maps.specs.Table.{listed}
use Rattle.key_maps.proofs.KeyRows.{rows_filter}
use Rattle.key_maps.proofs.Whole.{out_of_maps, out_at_newest, stays_whole, other_newest}
use Rattle.key_maps.proofs.keys.Keys.end.Goals as goal

pub invariant_of-self : goal.invariant_of-self
invariant_of-self c =
    subst AreRows (sym (out_of_maps c.args.id c.self.inside.maps c.remove.new.self c.self.inside.newest c.self.invariant (sym c.remove.ensures.held ∙ c.if-remove.true) c.remove.ensures.rows))
    (rows_filter (λ key. not (has_id c.args.id key)) (c.self.inside.maps ++ listed c.self.inside.newest) c.self.invariant)

pub returns-then-remove-clause-rows : goal.returns-then-remove-clause-rows
returns-then-remove-clause-rows c =
    rw (← c.self.view_is) (out_of_maps c.args.id c.self.inside.maps c.remove.new.self c.self.inside.newest c.self.invariant (sym c.remove.ensures.held ∙ c.if-remove.true) c.remove.ensures.rows)

pub invariant_of-self-in_default : goal.invariant_of-self-in_default
invariant_of-self-in_default c =
    subst AreRows (sym (stays_whole c.args.id c.self.inside.maps c.remove.new.self c.self.inside.newest (rw c.in_default.is tt) c.remove.ensures.rows))
    (rows_filter (λ key. not (has_id c.args.id key)) (c.self.inside.maps ++ listed c.self.inside.newest) c.self.invariant)

pub invariant_of-self-then-newest-id : goal.invariant_of-self-then-newest-id
invariant_of-self-then-newest-id c =
    subst AreRows (sym (stays_whole c.args.id c.self.inside.maps c.remove.new.self c.self.inside.newest (rw c.in-Some.is (other_newest c.args.id c.in-Some.newest c.if-newest-id.true)) c.remove.ensures.rows))
    (rows_filter (λ key. not (has_id c.args.id key)) (c.self.inside.maps ++ listed c.self.inside.newest) c.self.invariant)

pub invariant_of-self-2 : goal.invariant_of-self-2
invariant_of-self-2 c =
    subst AreRows (sym (out_at_newest c.args.id c.self.inside.maps c.remove.new.self c.in-Some.newest c.if-newest-id.false c.remove.ensures.rows))
    (rows_filter (λ key. not (has_id c.args.id key)) (c.self.inside.maps ++ c.in-Some.newest ∷ []) (rw c.in-Some.is at c.self.invariant))

pub returns-in_default-clause-rows : goal.returns-in_default-clause-rows
returns-in_default-clause-rows c =
    rw (← c.self.view_is) (stays_whole c.args.id c.self.inside.maps c.remove.new.self c.self.inside.newest (rw c.in_default.is tt) c.remove.ensures.rows)

pub returns-then-newest-id-clause-rows : goal.returns-then-newest-id-clause-rows
returns-then-newest-id-clause-rows c =
    rw (← c.self.view_is) (stays_whole c.args.id c.self.inside.maps c.remove.new.self c.self.inside.newest (rw c.in-Some.is (other_newest c.args.id c.in-Some.newest c.if-newest-id.true)) c.remove.ensures.rows)

pub returns-clause-rows : goal.returns-clause-rows
returns-clause-rows c =
    rw (← c.self.view_is, c.in-Some.is) (out_at_newest c.args.id c.self.inside.maps c.remove.new.self c.in-Some.newest c.if-newest-id.false c.remove.ensures.rows)
