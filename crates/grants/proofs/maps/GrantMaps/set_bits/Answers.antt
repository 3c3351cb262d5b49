use Rattle.std.proofs.Common.{◌≡◌, Some, None, refl, ◌∙◌, sym, ap}
use Rattle.std.specs.Prelude.{find}
use Rattle.std.specs.Option.{option_copied_mut}
use Rattle.std.specs.BTreeMap.{values}
use Rattle.std.proofs.lemmas.Option.{none-some, same_Some}
use Rattle.grants.specs.declared.row.GrantRow.{GrantRow}
use Rattle.grants.specs.Rows.{is_for}
use Rattle.grants.proofs.Finding.{all_from_none}
use Rattle.grants.proofs.Ordered.{bits_keep_all, numbered_from_held}
use Rattle.grants.proofs.Entries.{lookup_is}
use Rattle.grants.proofs.Indexed.{rebit, rebit_rows}
use Rattle.grants.proofs.maps.GrantMaps.set_bits.Goals as goal

pub returns-in_default-clause-rows : goal.returns-in_default-clause-rows
returns-in_default-clause-rows c =
    let rows = values c.self.inside.by_number in
    let none : find (is_for c.args.key c.args.uid) rows ≡ None = sym (c.self.invariant.held c.args.key c.args.uid) ∙ sym c.get_mut.ensures.value ∙ ap option_copied_mut c.in_default.is in
    rw (← c.self.view_is) (sym (bits_keep_all c.args.key c.args.uid c.args.bits rows (all_from_none (is_for c.args.key c.args.uid) rows none)))

pub unreachable-requires : goal.unreachable-requires
unreachable-requires c =
    let rows = values c.self.inside.by_number in
    let held = c.in-Some.held.now in
    let found : find (is_for c.args.key c.args.uid) rows ≡ Some held = sym (c.self.invariant.held c.args.key c.args.uid) ∙ sym c.get_mut.ensures.value ∙ ap option_copied_mut c.in-Some.is in
    none-some held (sym (ap option_copied_mut c.in_default-get_mut.is) ∙ c.get_mut-2.ensures.value ∙ lookup_is held.grant _ c.self.invariant.numbered ∙ numbered_from_held c.args.key c.args.uid rows held c.self.invariant.orderly found)

pub invariant_of-self-2 : goal.invariant_of-self-2
invariant_of-self-2 c =
    let rows = values c.self.inside.by_number in
    let held = c.in-Some.held.now in
    let found : find (is_for c.args.key c.args.uid) rows ≡ Some held = sym (c.self.invariant.held c.args.key c.args.uid) ∙ sym c.get_mut.ensures.value ∙ ap option_copied_mut c.in-Some.is in
    let same : c.in-Some-get_mut.row.now ≡ held =
    same_Some _ _ (sym (ap option_copied_mut c.in-Some-get_mut.is) ∙ c.get_mut-2.ensures.value ∙ lookup_is held.grant _ c.self.invariant.numbered ∙ numbered_from_held c.args.key c.args.uid rows held c.self.invariant.orderly found) in
    let row : GrantRow = record held { bits = c.args.bits } in
    rw same (rebit c.self.inside (c.get_mut-2.follows.lender row) (c.get_mut.follows.lender row) c.args.key c.args.uid c.args.bits held c.self.invariant found
    (c.get_mut-2.follows.holds row).0 ((c.get_mut.follows.holds row).3 (rw (c.self.invariant.held c.args.key c.args.uid ∙ found) refl)))

pub returns-clause-rows : goal.returns-clause-rows
returns-clause-rows c =
    let rows = values c.self.inside.by_number in
    let held = c.in-Some.held.now in
    let found : find (is_for c.args.key c.args.uid) rows ≡ Some held = sym (c.self.invariant.held c.args.key c.args.uid) ∙ sym c.get_mut.ensures.value ∙ ap option_copied_mut c.in-Some.is in
    let same : c.in-Some-get_mut.row.now ≡ held =
    same_Some _ _ (sym (ap option_copied_mut c.in-Some-get_mut.is) ∙ c.get_mut-2.ensures.value ∙ lookup_is held.grant _ c.self.invariant.numbered ∙ numbered_from_held c.args.key c.args.uid rows held c.self.invariant.orderly found) in
    let row : GrantRow = record held { bits = c.args.bits } in
    rw (← c.self.view_is, same) (rebit_rows c.self.inside (c.get_mut-2.follows.lender row) c.args.key c.args.uid c.args.bits held c.self.invariant found (c.get_mut-2.follows.holds row).0)
