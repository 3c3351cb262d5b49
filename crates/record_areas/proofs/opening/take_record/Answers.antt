-- The record, and the bytes behind it.
use Rattle.std.proofs.Common.{◌≡◌, ◌∙◌, ◌+◌, ◌-◌, ◌≤◌, ◌++◌, ℕ, List, ap, arith, drop, length, sym}
use Rattle.journal_records.specs.Spelling.{record_tail}
use Rattle.record_areas.specs.Windows.{place_of}
use Rattle.record_areas.proofs.Taken.{rest_is, taken_left, taken_long}
use Rattle.record_areas.proofs.opening.take_record.Goals as goal

pub returns-clause-taken : goal.returns-clause-taken
returns-clause-taken c =
    let held = c.held-held.result.now in
    let left = c.in_ok-it.left.now in
    let it = c.in_ok-it.it in
    let found = c.in_ok-it.ensures.found in
    let some : 1 ≤ length held = omega (arith, c.requires.some, ap length c.held-held.ensures) in
    let rest : drop 1 held ≡ record_tail it ++ left = rest_is held left it found.0 in
    let behind = c.pass.ensures.held ∙ ap (drop (length held - length left)) (sym c.held-held.ensures) ∙ taken_left held left it some rest in (
      found.1,
      c.pass.ensures.place ∙ ap (λ (k : ℕ). place_of c.args.window.now + k) (taken_long held left it some rest),
      ap (drop 1) (sym c.held-held.ensures) ∙ rest ∙ ap (λ (l : List ℕ). record_tail it ++ l) (sym behind),
    )
