-- Which area is selected, and where its records end, over plain variables.
use Rattle.std.proofs.Common.{◌≡◌, ◌≤◌, ℕ, ◌+◌, Bool, true, false, Result, Ok, Err, refl, ap, ◌∙◌, arith}
use Rattle.std.specs.Prelude.{OnErr, OnOk, nat_lt}
use Rattle.std.proofs.lemmas.Bool.{or_parts, ltb-false}
use Rattle.ks_outside.specs.declared.faults.Failed.{Failed}
use Rattle.record_areas.specs.Holding as lower
use Rattle.record_areas.specs.Holding.{end_after}
use Rattle.journal_compact.specs.Holding.{area_of, end_of, record_bytes, selected_of}
use Rattle.journal_compact.specs.Stores.{other, start_of}
use Rattle.journal_compact.specs.declared.areas.Areas.{Areas}
use Rattle.journal_compact.specs.declared.places.TheConstants.{AREA_BYTES}
use Rattle.key_database.specs.Compacting.{Extent, TurnsIf, extent_of, is_due, most_bytes, turned, turned_if}

-- where it is not due
pub not_due : (bytes snapshot count : ℕ) → is_due bytes snapshot count ≡ false → (bytes ≤ most_bytes snapshot) × (bytes + count ≤ AREA_BYTES)
not_due bytes snapshot count not =
    let parts = or_parts (nat_lt (most_bytes snapshot) bytes) (nat_lt AREA_BYTES (bytes + count)) not in
    (ltb-false (most_bytes snapshot) bytes parts.0, ltb-false AREA_BYTES (bytes + count) parts.1)

pub stays : (due : Bool) (snapshot : ℕ) (extent : Extent) → due ≡ false → extent ≡ turned_if due snapshot extent
stays false snapshot extent e = refl
stays true snapshot extent e = absurd (cc)

turns : (due : Bool) (snapshot : ℕ) (extent : Extent) → due ≡ true → turned snapshot extent ≡ turned_if due snapshot extent
turns true snapshot extent e = refl
turns false snapshot extent e = absurd (cc)

-- the other area, with a snapshot
is_turned : (areas areas' : Areas) (snapshot : ℕ) → 1 ≤ snapshot → selected_of areas' ≡ other (selected_of areas) → record_bytes areas' ≡ snapshot → extent_of areas' ≡ turned snapshot (extent_of areas)
is_turned areas areas' snapshot some same bytes =
    let end : end_of areas' ≡ start_of (other (selected_of areas)) + snapshot = omega (arith, some, bytes, ap start_of same) in
    λ i. record { selected = same i; end = end i }

-- a compaction, where it is due
pub turns_if : {T : Type 0} (result : Result T Failed) (areas areas' : Areas) (due : Bool) (snapshot : ℕ) → due ≡ true → 1 ≤ snapshot
    → OnOk result (selected_of areas' ≡ other (selected_of areas)) → OnOk result (record_bytes areas' ≡ snapshot)
    → OnErr result ((selected_of areas' ≡ selected_of areas) × (area_of areas' ≡ area_of areas)) → TurnsIf due snapshot (extent_of areas) (extent_of areas') result
turns_if (Ok done) areas areas' due snapshot is some same bytes kept = is_turned areas areas' snapshot some same bytes ∙ turns due snapshot (extent_of areas) is
turns_if (Err fault) areas areas' due snapshot is some same bytes kept =
    let ends : end_of areas' ≡ end_of areas = ap lower.end_of kept.1 in
    (is, λ i. record { selected = kept.0 i; end = ends i })

pub turned_within : {T : Type 0} (result : Result T Failed) (areas : Areas) (snapshot : ℕ) → OnOk result (record_bytes areas ≡ snapshot) → OnOk result (record_bytes areas ≤ most_bytes snapshot)
turned_within (Ok done) areas snapshot bytes = omega (arith, bytes)
turned_within (Err fault) areas snapshot bytes = tt

pub turned_fits : {T : Type 0} (result : Result T Failed) (areas : Areas) (snapshot count : ℕ) → snapshot + count ≤ AREA_BYTES → OnOk result (record_bytes areas ≡ snapshot)
    → OnOk result (record_bytes areas + count ≤ AREA_BYTES)
turned_fits (Ok done) areas snapshot count within bytes = omega (arith, bytes, within)
turned_fits (Err fault) areas snapshot count within bytes = tt
