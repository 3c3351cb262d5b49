use Rattle.std.proofs.Common.{◌≡◌, ℕ, true, false, List, ◌++◌, [], ◌∷◌, Some, refl, sym, ap, ◌∙◌, subst}
use Rattle.std.specs.Prelude.{find, is_some}
use Rattle.std.proofs.lemmas.Bool.{eq-eqb}
use Rattle.journal_records.specs.declared.record.KeyRecord.{KeyRecord}
use Rattle.journal_records.specs.Effects.{with_blob}
use Rattle.journal_records.specs.LastingPart.{has_id}
use Rattle.key_maps.specs.Rows.{AreRows}
use Rattle.key_maps.specs.Table.{listed}
use Rattle.key_maps.proofs.KeyRows.{blob_changes, rows_changed}
use Rattle.key_maps.proofs.Tests.{copied_some}
use Rattle.key_maps.proofs.Whole.{changed_at_newest, changed_elsewhere, changed_in_maps, changed_none, other_newest}
use Rattle.key_maps.proofs.keys.Keys.upgrade.Goals as goal

upgraded_newest : (id : ℕ) (blob list : List ℕ) (key : KeyRecord) → key.id ≡ id → record key { blob = blob; list = list } ≡ with_blob id blob list key
upgraded_newest id blob list key here = rw (eq-eqb key.id id here) refl

pub invariant_of-self : goal.invariant_of-self
invariant_of-self c =
    let change = with_blob c.args.id c.args.blob c.args.list in
    let changes = blob_changes c.args.id c.args.blob c.args.list in
    let some : is_some (find (has_id c.args.id) c.self.inside.maps) ≡ true = ap is_some (sym c.numbered.ensures) ∙ copied_some c.numbered.result ∙ sym c.is_some.ensures ∙ c.if-is_some.true in
    subst AreRows (sym (changed_in_maps c.args.id change changes c.self.inside.maps c.upgrade.new.self c.self.inside.newest c.self.invariant some c.upgrade.ensures))
    (rows_changed change changes.names (c.self.inside.maps ++ listed c.self.inside.newest) c.self.invariant)

pub returns-then-is_some-clause-rows : goal.returns-then-is_some-clause-rows
returns-then-is_some-clause-rows c =
    let some : is_some (find (has_id c.args.id) c.self.inside.maps) ≡ true = ap is_some (sym c.numbered.ensures) ∙ copied_some c.numbered.result ∙ sym c.is_some.ensures ∙ c.if-is_some.true in
    rw (← c.self.view_is) (changed_in_maps c.args.id (with_blob c.args.id c.args.blob c.args.list) (blob_changes c.args.id c.args.blob c.args.list) c.self.inside.maps c.upgrade.new.self c.self.inside.newest c.self.invariant some c.upgrade.ensures)

pub returns-in_default-clause-rows : goal.returns-in_default-clause-rows
returns-in_default-clause-rows c =
    let change = with_blob c.args.id c.args.blob c.args.list in
    let changes = blob_changes c.args.id c.args.blob c.args.list in
    let none : is_some (find (has_id c.args.id) c.self.inside.maps) ≡ false = ap is_some (sym c.numbered.ensures) ∙ copied_some c.numbered.result ∙ sym c.is_some.ensures ∙ c.if-is_some.false in
    rw (← c.self.view_is) (changed_elsewhere c.args.id change changes c.self.inside.maps c.self.inside.maps c.self.inside.newest (rw c.in_default.is tt) (changed_none c.args.id change changes c.self.inside.maps none))

pub returns-then-newest-id-clause-rows : goal.returns-then-newest-id-clause-rows
returns-then-newest-id-clause-rows c =
    let change = with_blob c.args.id c.args.blob c.args.list in
    let changes = blob_changes c.args.id c.args.blob c.args.list in
    let none : is_some (find (has_id c.args.id) c.self.inside.maps) ≡ false = ap is_some (sym c.numbered.ensures) ∙ copied_some c.numbered.result ∙ sym c.is_some.ensures ∙ c.if-is_some.false in
    rw (← c.self.view_is, c.in-Some.is) (changed_elsewhere c.args.id change changes c.self.inside.maps c.self.inside.maps (Some c.in-Some.newest) (other_newest c.args.id c.in-Some.newest c.if-newest-id.true) (changed_none c.args.id change changes c.self.inside.maps none))

pub invariant_of-self-2 : goal.invariant_of-self-2
invariant_of-self-2 c =
    let change = with_blob c.args.id c.args.blob c.args.list in
    let changes = blob_changes c.args.id c.args.blob c.args.list in
    let none : is_some (find (has_id c.args.id) c.self.inside.maps) ≡ false = ap is_some (sym c.numbered.ensures) ∙ copied_some c.numbered.result ∙ sym c.is_some.ensures ∙ c.if-is_some.false in
    let new : KeyRecord = record (c.in-Some.newest) { blob = c.args.blob; list = c.args.list } in
    subst AreRows (sym (changed_at_newest c.args.id change changes c.self.inside.maps c.self.inside.maps c.in-Some.newest new (upgraded_newest c.args.id c.args.blob c.args.list c.in-Some.newest c.if-newest-id.false) (changed_none c.args.id change changes c.self.inside.maps none)))
    (rows_changed change changes.names (c.self.inside.maps ++ c.in-Some.newest ∷ []) (rw c.in-Some.is at c.self.invariant))

pub returns-clause-rows : goal.returns-clause-rows
returns-clause-rows c =
    let change = with_blob c.args.id c.args.blob c.args.list in
    let changes = blob_changes c.args.id c.args.blob c.args.list in
    let none : is_some (find (has_id c.args.id) c.self.inside.maps) ≡ false = ap is_some (sym c.numbered.ensures) ∙ copied_some c.numbered.result ∙ sym c.is_some.ensures ∙ c.if-is_some.false in
    let new : KeyRecord = record (c.in-Some.newest) { blob = c.args.blob; list = c.args.list } in
    rw (← c.self.view_is, c.in-Some.is) (changed_at_newest c.args.id change changes c.self.inside.maps c.self.inside.maps c.in-Some.newest new (upgraded_newest c.args.id c.args.blob c.args.list c.in-Some.newest c.if-newest-id.false) (changed_none c.args.id change changes c.self.inside.maps none))
