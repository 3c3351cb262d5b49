-- A cell comes into a place that was free.
use Rattle.std.proofs.Common.{◌≡◌, ◌≢◌, ◌<◌, ◌≤◌, ◌+◌, ◌==◌, ℕ, cond, List, [], ◌∷◌, ◌++◌, length, get_or, None, refl, ap, ◌∙◌, subst, arith, inl, inr}
use Rattle.std.proofs.Math.ListN.{set}
use Rattle.std.proofs.lemmas.List.{length-set, length_push, get_or-set_same, get_or-set_other}
use Rattle.std.proofs.lemmas.Bool.{cases_Bool, eqb-true, eq-eqb}
use Rattle.operation_slots.specs.declared.cells.Cell.{Cell}
use Rattle.operation_slots.specs.Boards.{Lays, PutsCell, cell_at, blank, times, once_in}
use Rattle.operation_slots.proofs.Entries.{one_if, once_at_most, once_within, put_other}
use Rattle.operation_slots.proofs.Boards.{times_more}

module _ {T : Type 0} where
  puts_set : (cells : List (Cell T)) (place : ℕ) (cell : Cell T) → place < length cells → PutsCell cells (set cells place cell) place cell
  puts_set cells place cell within other = elim (cases_Bool (other == place)) [
    | inl e ↦ rw e (ap (λ (k : ℕ). get_or (set cells place cell) k blank) (eqb-true other place e) ∙ get_or-set_same cells place cell blank within)
    | inr e ↦ rw e (get_or-set_other cells place other cell blank (λ (s : other ≡ place). let t = eq-eqb other place s in cc))
  ]

  module _ (cells : List (Cell T)) (free left : List ℕ) (place : ℕ) (popped : free ≡ left ++ place ∷ []) (once : (n : ℕ) → times n free ≤ once_in n (length cells)) where
    times_free : (n : ℕ) → times n free ≡ times n left + cond {A = ℕ} (place == n) 1 0
    times_free n = ap (times n) popped ∙ times_more n place left

    pub is_free : 0 < times place free
    is_free = omega (arith, times_free place, one_if (place == place) (eq-eqb place place refl))

    pub free_within : place < length cells
    free_within = once_within place (length cells) (omega (arith, once place, is_free))

    pub lays : (cell : Cell T) → ((n : ℕ) → 0 < times n free → (cell_at cells n).operation.value ≡ None) → Lays cells free (set cells place cell) left place cell
    lays cell spare = record {
      puts = puts_set cells place cell free_within;
      within = omega (arith, free_within, length-set cells place cell);
      size = omega (arith, length-set cells place cell, ap length popped, length_push left place);
      fits = λ most le empty. omega (arith, le, length-set cells place cell);
      apart = λ n others h. rw (length-set cells place cell) (omega (arith, h, times_free n));
      spare = λ n some.
          let other : n ≢ place = (λ (e : n ≡ place). let one = subst (λ (m : ℕ). 0 < times m left) e some in omega (arith, one, once place, once_at_most place (length cells), times_free place, one_if (place == place) (eq-eqb place place refl))) in
          ap (λ (c : Cell T). c.operation.value) (put_other cells (set cells place cell) place cell (puts_set cells place cell free_within) n other) ∙ spare n (omega (arith, some, times_free n));
    }
