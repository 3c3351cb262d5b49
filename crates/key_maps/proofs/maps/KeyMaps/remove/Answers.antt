use Rattle.std.proofs.Common.{◌≡◌, Some, ◌∙◌, sym, ap}
use Rattle.std.specs.Prelude.{find, is_some}
use Rattle.std.specs.BTreeMap.{values}
use Rattle.grants.proofs.Finding.{found_has}
use Rattle.journal_records.specs.LastingPart.{has_id}
use Rattle.key_maps.specs.Rows.{IsFit}
use Rattle.key_maps.proofs.KeyRows.{all_fit}
use Rattle.key_maps.proofs.Entries.{lookup_is}
use Rattle.key_maps.proofs.Indexing.{removed, removed_rows}
use Rattle.key_maps.proofs.maps.KeyMaps.remove.Goals as goal

pub returns-in_default-clause-held : goal.returns-in_default-clause-held
returns-in_default-clause-held c = rw (← c.self.view_is) (ap is_some (sym c.in_default.is ∙ c.remove.ensures.value ∙ lookup_is c.args.id _ c.self.invariant.numbered))

pub returns-in_default-clause-rows : goal.returns-in_default-clause-rows
returns-in_default-clause-rows c = rw (← c.self.view_is) (removed_rows c.self.inside c.remove.new.self c.args.id c.self.invariant c.remove.ensures.entries)

pub name_of-name-requires : goal.name_of-name-requires
name_of-name-requires c =
    let found : find (has_id c.args.id) (values c.self.inside.by_id) ≡ Some c.in-Some.key = sym (lookup_is c.args.id _ c.self.invariant.numbered) ∙ sym c.remove.ensures.value ∙ c.in-Some.is in
    rw (c.as_slice.ensures) (found_has IsFit (has_id c.args.id) (values c.self.inside.by_id) c.in-Some.key (all_fit (values c.self.inside.by_id) c.self.invariant.orderly) found).0

pub invariant_of-self-2 : goal.invariant_of-self-2
invariant_of-self-2 c =
    let found : find (has_id c.args.id) (values c.self.inside.by_id) ≡ Some c.in-Some.key = sym (lookup_is c.args.id _ c.self.invariant.numbered) ∙ sym c.remove.ensures.value ∙ c.in-Some.is in
    removed c.self.inside c.remove.new.self c.remove-2.new.self c.lower.new.counts c.args.id c.in-Some.key c.self.invariant found
    c.remove.ensures.entries
    (rw (c.name_of-name.ensures, c.as_slice.ensures) at c.remove-2.ensures.updates)
    c.lower.ensures

pub returns-clause-held : goal.returns-clause-held
returns-clause-held c =
    let found : find (has_id c.args.id) (values c.self.inside.by_id) ≡ Some c.in-Some.key = sym (lookup_is c.args.id _ c.self.invariant.numbered) ∙ sym c.remove.ensures.value ∙ c.in-Some.is in
    rw (← c.self.view_is) (ap is_some (sym found))

pub returns-clause-rows : goal.returns-clause-rows
returns-clause-rows c = rw (← c.self.view_is) (removed_rows c.self.inside c.remove.new.self c.args.id c.self.invariant c.remove.ensures.entries)
