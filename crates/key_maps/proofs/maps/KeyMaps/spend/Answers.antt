use Rattle.std.proofs.Common.{◌≡◌, ℕ, ◌-◌, List, Some, None, refl, ◌∙◌, sym, ap}
use Rattle.std.specs.Prelude.{find, is_some}
use Rattle.std.specs.Option.{option_copied_mut}
use Rattle.std.specs.Ordering.{nat_cmp}
use Rattle.std.specs.Map.{set_value}
use Rattle.std.specs.BTreeMap.{BTreeMap, is_at, values}
use Rattle.grants.proofs.Finding.{all_from_none, found_passes}
use Rattle.journal_records.specs.declared.record.KeyRecord.{KeyRecord}
use Rattle.journal_records.specs.Effects.{with_use}
use Rattle.journal_records.specs.LastingPart.{has_id}
use Rattle.key_maps.proofs.KeyRows.{changes_none, use_changes}
use Rattle.key_maps.proofs.Entries.{lookup_is}
use Rattle.key_maps.proofs.Indexing.{changed, changed_rows}
use Rattle.key_maps.proofs.maps.KeyMaps.spend.Goals as goal

pub returns-in_default-clause-held : goal.returns-in_default-clause-held
returns-in_default-clause-held c =
    let none : find (has_id c.args.id) (values c.self.inside.by_id) ≡ None = sym (lookup_is c.args.id _ c.self.invariant.numbered) ∙ sym c.get_mut.ensures.value ∙ ap option_copied_mut c.in_default.is in
    rw (← c.self.view_is) (ap is_some (sym none))

pub returns-in_default-clause-rows : goal.returns-in_default-clause-rows
returns-in_default-clause-rows c =
    let none : find (has_id c.args.id) (values c.self.inside.by_id) ≡ None = sym (lookup_is c.args.id _ c.self.invariant.numbered) ∙ sym c.get_mut.ensures.value ∙ ap option_copied_mut c.in_default.is in
    rw (← c.self.view_is) (ap (λ (map : BTreeMap ℕ KeyRecord). values map) c.get_mut.follows.holds-at-none ∙ sym (changes_none c.args.id (with_use c.args.id) (use_changes c.args.id) (values c.self.inside.by_id) (all_from_none (has_id c.args.id) (values c.self.inside.by_id) none)))

-- the key with one use less
used_here : (id : ℕ) (rows : List KeyRecord) (key : KeyRecord) → find (has_id id) rows ≡ Some key → record key { left = key.left - 1 } ≡ with_use id key
used_here id rows key found = rw (found_passes (has_id id) rows key found) refl

pub invariant_of-self-2 : goal.invariant_of-self-2
invariant_of-self-2 c =
    let found : find (has_id c.args.id) (values c.self.inside.by_id) ≡ Some c.in-Some.key.now = sym (lookup_is c.args.id _ c.self.invariant.numbered) ∙ sym c.get_mut.ensures.value ∙ ap option_copied_mut c.in-Some.is in
    let used : KeyRecord = record (c.in-Some.key.now) { left = c.in-Some.key.now.left - 1 } in
    let here : used ≡ with_use c.args.id c.in-Some.key.now = used_here c.args.id (values c.self.inside.by_id) c.in-Some.key.now found in
    rw (c.saturating_sub-key.ensures) (changed c.self.inside (c.get_mut.follows.lender used) c.args.id (with_use c.args.id) c.in-Some.key.now (use_changes c.args.id) c.self.invariant found
    ((c.get_mut.follows.holds used).0 ∙ ap (set_value (is_at (nat_cmp c.args.id)) c.self.inside.by_id.entries) here))

pub returns-clause-held : goal.returns-clause-held
returns-clause-held c =
    let found : find (has_id c.args.id) (values c.self.inside.by_id) ≡ Some c.in-Some.key.now = sym (lookup_is c.args.id _ c.self.invariant.numbered) ∙ sym c.get_mut.ensures.value ∙ ap option_copied_mut c.in-Some.is in
    rw (← c.self.view_is) (ap is_some (sym found))

pub returns-clause-rows : goal.returns-clause-rows
returns-clause-rows c =
    let found : find (has_id c.args.id) (values c.self.inside.by_id) ≡ Some c.in-Some.key.now = sym (lookup_is c.args.id _ c.self.invariant.numbered) ∙ sym c.get_mut.ensures.value ∙ ap option_copied_mut c.in-Some.is in
    let used : KeyRecord = record (c.in-Some.key.now) { left = c.in-Some.key.now.left - 1 } in
    let here : used ≡ with_use c.args.id c.in-Some.key.now = used_here c.args.id (values c.self.inside.by_id) c.in-Some.key.now found in
    rw (← c.self.view_is, c.saturating_sub-key.ensures) (changed_rows c.self.inside (c.get_mut.follows.lender used) c.args.id (with_use c.args.id) c.in-Some.key.now (use_changes c.args.id) c.self.invariant found
    ((c.get_mut.follows.holds used).0 ∙ ap (set_value (is_at (nat_cmp c.args.id)) c.self.inside.by_id.entries) here))
