use Rattle.std.proofs.Common.{◌≡◌, ℕ, List, Option, Some, None, ◌∙◌, refl, sym, ap}
use Rattle.std.specs.Prelude.{find, IsSome}
use Rattle.std.specs.Option.{option_copied_mut}
use Rattle.std.specs.Ordering.{nat_cmp}
use Rattle.std.specs.Map.{set_value}
use Rattle.std.specs.BTreeMap.{is_at, values}
use Rattle.std.proofs.lemmas.Option.{none-some}
use Rattle.grants.proofs.Finding.{found_passes}
use Rattle.journal_records.specs.declared.record.KeyRecord.{KeyRecord}
use Rattle.journal_records.specs.Effects.{with_blob}
use Rattle.journal_records.specs.LastingPart.{has_id}
use Rattle.key_maps.proofs.KeyRows.{blob_changes}
use Rattle.key_maps.proofs.Entries.{lookup_is}
use Rattle.key_maps.proofs.Indexing.{changed, changed_rows}
use Rattle.key_maps.proofs.maps.KeyMaps.upgrade.Goals as goal

some_not_none : (found : Option KeyRecord) → found ≡ None → IsSome found → ⊥
some_not_none None none some = cc
some_not_none (Some key) none some = none-some key (sym none)

-- the key with this blob and this list
upgraded_here : (id : ℕ) (blob list : List ℕ) (rows : List KeyRecord) (key : KeyRecord) → find (has_id id) rows ≡ Some key → record key { blob = blob; list = list } ≡ with_blob id blob list key
upgraded_here id blob list rows key found = rw (found_passes (has_id id) rows key found) refl

pub unreachable-requires : goal.unreachable-requires
unreachable-requires c =
    let none : find (has_id c.args.id) (values c.self.inside.by_id) ≡ None = sym (lookup_is c.args.id _ c.self.invariant.numbered) ∙ sym c.get_mut.ensures.value ∙ ap option_copied_mut c.in-None.is in
    let some : IsSome (find (has_id c.args.id) (values c.self.inside.by_id)) = rw (← c.self.view_is) at c.requires in
    some_not_none (find (has_id c.args.id) (values c.self.inside.by_id)) none some

pub invariant_of-self : goal.invariant_of-self
invariant_of-self c =
    let found : find (has_id c.args.id) (values c.self.inside.by_id) ≡ Some c.in-Some.key.now = sym (lookup_is c.args.id _ c.self.invariant.numbered) ∙ sym c.get_mut.ensures.value ∙ ap option_copied_mut c.in-Some.is in
    let new : KeyRecord = record (c.in-Some.key.now) { blob = c.args.blob; list = c.args.list } in
    let here : new ≡ with_blob c.args.id c.args.blob c.args.list c.in-Some.key.now = upgraded_here c.args.id c.args.blob c.args.list (values c.self.inside.by_id) c.in-Some.key.now found in
    changed c.self.inside (c.get_mut.follows.lender new) c.args.id (with_blob c.args.id c.args.blob c.args.list) c.in-Some.key.now (blob_changes c.args.id c.args.blob c.args.list) c.self.invariant found
    ((c.get_mut.follows.holds new).0 ∙ ap (set_value (is_at (nat_cmp c.args.id)) c.self.inside.by_id.entries) here)

pub returns : goal.returns
returns c =
    let found : find (has_id c.args.id) (values c.self.inside.by_id) ≡ Some c.in-Some.key.now = sym (lookup_is c.args.id _ c.self.invariant.numbered) ∙ sym c.get_mut.ensures.value ∙ ap option_copied_mut c.in-Some.is in
    let new : KeyRecord = record (c.in-Some.key.now) { blob = c.args.blob; list = c.args.list } in
    let here : new ≡ with_blob c.args.id c.args.blob c.args.list c.in-Some.key.now = upgraded_here c.args.id c.args.blob c.args.list (values c.self.inside.by_id) c.in-Some.key.now found in
    rw (← c.self.view_is) (changed_rows c.self.inside (c.get_mut.follows.lender new) c.args.id (with_blob c.args.id c.args.blob c.args.list) c.in-Some.key.now (blob_changes c.args.id c.args.blob c.args.list) c.self.invariant found
    ((c.get_mut.follows.holds new).0 ∙ ap (set_value (is_at (nat_cmp c.args.id)) c.self.inside.by_id.entries) here))
