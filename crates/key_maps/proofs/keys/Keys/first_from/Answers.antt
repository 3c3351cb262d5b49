use Rattle.std.proofs.Common.{◌++◌, ◌∷◌, [], Some}
use Rattle.std.specs.Option.{option_copied}
use Rattle.grants.proofs.Finding.{found_has}
use Rattle.key_maps.specs.First.{IsFirstFrom}
use Rattle.key_maps.specs.Names.{key_name, is_at_name}
use Rattle.key_maps.specs.Rows.{AreRows, IsFit}
use Rattle.key_maps.proofs.KeyRows.{all_fit, front_rows, fit_last}
use Rattle.key_maps.proofs.Nexts.{newest_before, newest_alone, newest_after, newest_first}
use Rattle.key_maps.proofs.keys.Keys.first_from.Goals as goal

pub name_of_key-name-requires : goal.name_of_key-name-requires
name_of_key-name-requires c =
    let rows : AreRows (c.self.inside.maps ++ c.in-Some.newest ∷ []) = rw c.in-Some.is at c.self.invariant in
    (fit_last c.self.inside.maps c.in-Some.newest rows).0

pub returns-then-not-is_from-clause-first : goal.returns-then-not-is_from-clause-first
returns-then-not-is_from-clause-first c =
    let rows : AreRows (c.self.inside.maps ++ c.in-Some.newest ∷ []) = rw c.in-Some.is at c.self.invariant in
    rw (← c.self.view_is, c.in-Some.is) (newest_before c.self.inside.maps c.in-Some.newest rows c.args.start (option_copied c.first_from-held.result) (rw (c.name_of_key-name.ensures) at (c.is_from.ensures.before c.if-not-is_from.true)) c.first_from-held.ensures)

pub returns-in_default-held-clause-first : goal.returns-in_default-held-clause-first
returns-in_default-held-clause-first c =
    let rows : AreRows (c.self.inside.maps ++ c.in-Some.newest ∷ []) = rw c.in-Some.is at c.self.invariant in
    rw (← c.self.view_is, c.in-Some.is) (newest_alone c.self.inside.maps c.in-Some.newest rows c.args.start (rw (c.name_of_key-name.ensures) at (c.is_from.ensures.from c.if-not-is_from.false)) (rw c.in_default-held.is at c.first_from-held.ensures))

pub is_before-requires : goal.is_before-requires
is_before-requires c =
    let first : IsFirstFrom c.self.inside.maps c.args.start (Some c.in-Some-held.key.now) = rw c.in-Some-held.is at c.first_from-held.ensures in
    (found_has IsFit (is_at_name (key_name c.in-Some-held.key.now)) c.self.inside.maps c.in-Some-held.key.now (all_fit c.self.inside.maps (front_rows c.self.inside.maps _ c.self.invariant)) first.held).0

pub returns-then-is_before-clause-first : goal.returns-then-is_before-clause-first
returns-then-is_before-clause-first c =
    let rows : AreRows (c.self.inside.maps ++ c.in-Some.newest ∷ []) = rw c.in-Some.is at c.self.invariant in
    let first : IsFirstFrom c.self.inside.maps c.args.start (Some c.in-Some-held.key.now) = rw c.in-Some-held.is at c.first_from-held.ensures in
    rw (← c.self.view_is, c.in-Some.is, c.in-Some-held.is) (newest_after c.self.inside.maps c.in-Some.newest rows c.args.start c.in-Some-held.key.now (rw (c.name_of_key-name.ensures) at (c.is_before.ensures.before c.if-is_before.true)) first)

pub returns-clause-first : goal.returns-clause-first
returns-clause-first c =
    let rows : AreRows (c.self.inside.maps ++ c.in-Some.newest ∷ []) = rw c.in-Some.is at c.self.invariant in
    let first : IsFirstFrom c.self.inside.maps c.args.start (Some c.in-Some-held.key.now) = rw c.in-Some-held.is at c.first_from-held.ensures in
    rw (← c.self.view_is, c.in-Some.is) (newest_first c.self.inside.maps c.in-Some.newest rows c.args.start c.in-Some-held.key.now (rw (c.name_of_key-name.ensures) at (c.is_from.ensures.from c.if-not-is_from.false)) (rw (c.name_of_key-name.ensures) at (c.is_before.ensures.other c.if-is_before.false)) first)
