-- The header of a journal, written and found.
use Rattle.std.proofs.Common.{◌≡◌, ℕ, ◌≤◌, List, [], ◌∷◌, ◌++◌, length, take, drop, sym, ap, ◌∙◌, arith, length-take}
use Rattle.std.proofs.lemmas.List.{drop-take, take-take}
use Rattle.disk_calls.specs.Still.{Fills}
use Rattle.ks_outside.specs.Ranges.{Holds}
use Rattle.record_areas.specs.Frames.{IsMarked}
use Rattle.use_journal.specs.Journal.{IsJournal, header, journal_frame}

-- the header and a gate that is shut
abbrev pub fresh : List ℕ
fresh = header ++ 0 ∷ []

-- what was read is the header
pub found : (n : ℕ) (out image : List ℕ) → Fills 0 n out image → n ≤ 8 → take n out ≡ header → IsMarked journal_frame image
found n out image fills within same =
    let eight : n ≡ 8 = omega (arith, within, ap length same, length-take n out) in
    (ap (λ (k : ℕ). take k image) (sym eight) ∙ sym fills.bytes ∙ same, tt)

-- and so it is where the image has it
pub missing : (n : ℕ) (out image : List ℕ) → Fills 0 n out image → length out ≡ 8 → (take n out ≡ header → ⊥) → IsMarked journal_frame image → ⊥
missing n out image fills size other marked =
    let long : 8 ≤ length image = omega (arith, ap length marked.0, length-take 8 image) in
    let eight : n ≡ 8 = omega (arith, fills.count, size, long) in
    other (fills.bytes ∙ ap (λ (k : ℕ). take k image) eight ∙ marked.0)

-- what was written is an empty journal
pub written : (old new : List ℕ) → Holds 0 fresh old new → IsJournal [] new
written old new held = record {
  marked = (take_front new held.range, tt);
  records = record {
    area = record { gate = 0; closed = λ e. absurd cc; is = take_last new held.range };
    within = omega arith;
  };
}
  where
    take_front : (image : List ℕ) → take 9 image ≡ fresh → take 8 image ≡ header
    take_front image e = sym (take_fewer image) ∙ ap (take 8) e
      where
        take_fewer : (bytes : List ℕ) → take 8 (take 9 bytes) ≡ take 8 bytes
        take_fewer bytes = take-take 8 9 bytes (omega arith)

    take_last : (image : List ℕ) → take 9 image ≡ fresh → take 1 (drop 8 image) ≡ 0 ∷ []
    take_last image e = sym (drop-take 8 1 image) ∙ ap (drop 8) e
