-- What marks a store stands, whatever is written among its records.
use Rattle.std.proofs.Common.{inl, inr, ⊎_elim, ℕ, ◌+◌, ◌≤◌, List, [], ◌∷◌, length, arith}
use Rattle.std.specs.List.{AllByRecursion}
use Rattle.ks_outside.specs.declared.disk.Disk.{Ghosts}
use Rattle.ks_outside.specs.Images.{AllImages, Passes}
use Rattle.ks_outside.proofs.Joins.{passes_as}
use Rattle.gated_records.specs.Areas.{HoldsAt, IsOutside}
use Rattle.record_areas.specs.Frames.{IsMarkOf, Mark}

-- the image has these marks
abbrev pub HasMarks : List Mark → List ℕ → Type 0
HasMarks marks image = AllByRecursion (λ (mark : Mark). HoldsAt mark.place mark.bytes image) marks

-- what is written between the start and the limit is outside of a mark
pub outside : (start limit at n : ℕ) (mark : Mark) → start ≤ at → at + n ≤ limit → IsMarkOf start limit mark → IsOutside mark.place mark.bytes at n
outside start limit at n mark begins ends is = record {
  some = is.some;
  apart = ⊎_elim (λ (k : mark.place + length mark.bytes ≤ start). inl (omega (arith, k, begins))) (λ (k : limit ≤ mark.place). inr (omega (arith, k, ends))) is.apart;
}

module _ {D : Type 0} (g : Ghosts D) (old new : D) where
  -- of images that came, both are so
  pub passes_both : (P Q : List ℕ → Type 0) → Passes g old new P → Passes g old new Q → Passes g old new (λ image. P image × Q image)
  passes_both P Q first second = record {
    later = first.later;
    since = λ t c left. ⊎_elim (λ past. inl past) (λ (p : P c). ⊎_elim (λ past. inl past) (λ (q : Q c). inr (p, q)) (second.since t c left)) (first.since t c left);
  }

  -- each mark, where what stands outside of a range is kept
  pub marks_stay : (at n start limit : ℕ) (marks : List Mark) → start ≤ at → at + n ≤ limit → AllByRecursion (IsMarkOf start limit) marks
      → ((place : ℕ) (bytes : List ℕ) → IsOutside place bytes at n → AllImages g old (HoldsAt place bytes) → AllImages g new (HoldsAt place bytes))
      → AllImages g old (HasMarks marks) → AllImages g new (HasMarks marks)
  marks_stay at n start limit [] begins ends are keeps all image left = tt
  marks_stay at n start limit (mark ∷ marks) begins ends are keeps all image left = (
    keeps mark.place mark.bytes (outside start limit at n mark begins ends are.0) (λ c was. (all c was).0) image left,
    marks_stay at n start limit marks begins ends are.1 keeps (λ c was. (all c was).1) image left,
  )

  pub marks_pass : (P : List ℕ → Type 0) (at n start limit : ℕ) (marks : List Mark) → start ≤ at → at + n ≤ limit → AllByRecursion (IsMarkOf start limit) marks → Passes g old new P
      → ((place : ℕ) (bytes : List ℕ) → IsOutside place bytes at n → AllImages g old (HoldsAt place bytes) → Passes g old new (HoldsAt place bytes))
      → AllImages g old (HasMarks marks) → Passes g old new (HasMarks marks)
  marks_pass P at n start limit [] begins ends are passes keeps all = passes_as g old new P (HasMarks []) passes (λ c held. tt)
  marks_pass P at n start limit (mark ∷ marks) begins ends are passes keeps all = passes_both (HoldsAt mark.place mark.bytes) (HasMarks marks)
      (keeps mark.place mark.bytes (outside start limit at n mark begins ends are.0) (λ c was. (all c was).0))
      (marks_pass P at n start limit marks begins ends are.1 passes keeps (λ c was. (all c was).1))
