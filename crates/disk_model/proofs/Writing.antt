-- The bytes of the model after a write, place by place, and those of the pages with them.
use Rattle.std.proofs.Common.{◌≡◌, ◌⊎◌, inl, inr, ℕ, zero, suc, ◌+◌, ◌-◌, ◌<◌, ◌≤◌, List, [], ◌∷◌, ◌++◌, length, take, drop, get_or, replicate, refl, sym, ap, ◌∙◌, subst, arith, length-take, max}
use Rattle.std.proofs.lemmas.Bool.{cases_lt}
use Rattle.std.proofs.lemmas.List.{get_or-take, get_or-drop, get_or_append_left, get_or-append_right, get_or-replicate, length-replicate}
use Rattle.disk_model.specs.Pages.{Overlaid}
use Rattle.disk_model.specs.CrashImages.{overwritten}
use Rattle.disk_model.specs.Laws.{held}

none_past : (bytes : List ℕ) (place : ℕ) → length bytes ≤ place → get_or bytes place 0 ≡ 0
none_past [] zero past = refl
none_past [] (suc place) past = refl
none_past (x ∷ bytes) zero past = absurd (omega (arith, past))
none_past (x ∷ bytes) (suc place) past = none_past bytes place (omega (arith, past))

module _ (at : ℕ) (piece old : List ℕ) where
  gap : List ℕ
  gap = replicate (at - length old) 0

  abbrev rest : List ℕ
  rest = piece ++ drop (at + length piece) old

  -- before the piece: the old bytes, and 00 past their end
  before_it : (place : ℕ) → place < at → get_or (overwritten at piece old) place 0 ≡ get_or old place 0
  unfolding gap
  before_it place below = elim (cases_lt place (length old)) [
    | inl within ↦
        get_or_append_left (take at old) (gap ++ rest) 0 place (omega (arith, length-take at old, below, within)) ∙ get_or-take at old place 0 below
    | inr past ↦
        let front : length (take at old) ≡ length old = omega (arith, length-take at old, below, past) in
        get_or-append_right (take at old) (gap ++ rest) (length old) place 0 front past
        ∙ get_or_append_left gap rest 0 (place - length old) (omega (arith, length-replicate {A = ℕ} (at - length old) 0, below, past))
        ∙ get_or-replicate (at - length old) (place - length old) 0 0 (omega (arith, below, past))
        ∙ sym (none_past old place past)
  ]

  -- from the piece's place on
  from_it : (place : ℕ) → at ≤ place → get_or (overwritten at piece old) place 0 ≡ get_or rest (place - at) 0
  unfolding gap
  from_it place past =
      let front = length-take at old in
      let n : ℕ = length (take at old) in
      get_or-append_right (take at old) (gap ++ rest) (length (take at old)) place 0 refl (omega (arith, front, past))
      ∙ get_or-append_right gap rest (at - length (take at old)) (place - length (take at old)) 0 (omega (arith, length-replicate {A = ℕ} (at - length old) 0, front)) (omega (arith, front, past))
      ∙ ap (λ (k : ℕ). get_or rest k 0) (omega (arith, front, past))

  pub in_piece : (i : ℕ) → i < length piece → get_or (overwritten at piece old) (at + i) 0 ≡ get_or piece i 0
  in_piece i below =
      from_it (at + i) (omega arith) ∙ ap (λ (k : ℕ). get_or rest k 0) (omega arith)
      ∙ get_or_append_left piece (drop (at + length piece) old) 0 i below

  pub beyond_it : (place : ℕ) → (place < at) ⊎ (at + length piece ≤ place) → get_or (overwritten at piece old) place 0 ≡ get_or old place 0
  beyond_it place (inl below) = before_it place below
  beyond_it place (inr past) =
      from_it place (omega (arith, past))
      ∙ get_or-append_right piece (drop (at + length piece) old) (length piece) (place - at) 0 refl (omega (arith, past))
      ∙ get_or-drop (at + length piece) old (place - at - length piece) 0
      ∙ ap (λ (k : ℕ). get_or old k 0) (omega (arith, past))

-- pages over which the piece was laid have the bytes that the model has
pub laid_over : (start held now : ℕ → ℕ) (at : ℕ) (piece old : List ℕ) → ((place : ℕ) → start place ≡ get_or old place 0)
    → ((place : ℕ) → held place ≡ start place) → Overlaid held now at (length piece) piece
    → (place : ℕ) → now place ≡ get_or (overwritten at piece old) place 0
laid_over start held now at piece old kept same o place = elim (cases_lt place at) [
  | inl below ↦ o.outside place (inl below) ∙ same place ∙ kept place ∙ sym (beyond_it at piece old place (inl below))
  | inr from ↦ elim (cases_lt place (at + length piece)) [
    | inl below ↦
        let here : at + (place - at) ≡ place = omega (arith, from) in
        let byte = o.inside (place - at) (omega (arith, from, below)) ∙ sym (in_piece at piece old (place - at) (omega (arith, from, below))) in
        subst (λ (k : ℕ). now k ≡ get_or (overwritten at piece old) k 0) here byte
    | inr past ↦ o.outside place (inr past) ∙ same place ∙ kept place ∙ sym (beyond_it at piece old place (inr past))
  ]
]

pub size_after : (at : ℕ) (piece old : List ℕ) → length (overwritten at piece old) ≡ max (length old) (at + length piece)
size_after at piece old = (held at piece old).size
