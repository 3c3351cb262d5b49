-- The numbers of the open operations go on rising, while rows come, change and go.
use Rattle.std.proofs.Common.{◌≡◌, ◌<◌, ◌+◌, ℕ, Bool, true, false, if◌then◌else◌, List, [], ◌∷◌, ◌++◌, map, filter, refl, sym, ap, ◌∙◌, subst, arith, inl, inr}
use Rattle.std.specs.List.{AllByRecursion}
use Rattle.std.proofs.lemmas.Bool.{cases_Bool}
use Rattle.slot_chain.specs.Ordered.{IsAbove, IsRising, IsOrdered}
use Rattle.auth_tokens.specs.declared.token.AuthToken.{AuthToken}
use Rattle.live_tables.specs.declared.operations.OperationRow.{OperationRow}
use Rattle.live_tables.specs.declared.operations.RowChange.{RowChange}
use Rattle.live_tables.specs.Numbered.{AreNumbered, row_number}
use Rattle.live_tables.specs.Operations.{changed, has_row, is_for_row, shown, with_row, with_shown}
use Rattle.live_tables.proofs.Keeping.{changed_number}

-- ---- numbers that rise

above_front : (n : ℕ) (ks : List ℕ) (k : ℕ) → IsAbove n (ks ++ k ∷ []) → IsAbove n ks
above_front n [] k h = tt
above_front n (j ∷ js) k h = (h.0, above_front n js k h.1)

above_last : (n : ℕ) (ks : List ℕ) (k : ℕ) → IsAbove n (ks ++ k ∷ []) → n < k
above_last n [] k h = h.0
above_last n (j ∷ js) k h = above_last n js k h.1

above_more : (n : ℕ) (ks : List ℕ) (k : ℕ) → IsAbove n ks → n < k → IsAbove n (ks ++ k ∷ [])
above_more n [] k h l = (l, tt)
above_more n (j ∷ js) k h l = (h.0, above_more n js k h.1 l)

rising_front : (ks : List ℕ) (k : ℕ) → IsRising (ks ++ k ∷ []) → IsRising ks
rising_front [] k h = tt
rising_front (j ∷ js) k h = (above_front j js k h.0, rising_front js k h.1)

rising_more : (ks : List ℕ) (k m : ℕ) → k < m → IsRising (ks ++ k ∷ []) → IsRising ((ks ++ k ∷ []) ++ m ∷ [])
rising_more [] k m l h = ((l, tt), (tt, tt))
rising_more (j ∷ js) k m l h = (above_more j (js ++ k ∷ []) m h.0 (omega (arith, above_last j js k h.0)), rising_more js k m l h.1)

-- the next number is greater than that of each row
pub all_below : (rows : List OperationRow) (next : ℕ) → AreNumbered rows next → AllByRecursion (λ row. row.number < next) rows
all_below [] next h = tt
all_below (r ∷ rs) next h = (above_last r.number (map row_number rs) next h.0, all_below rs next h.1)

pub ordered : (rows : List OperationRow) (next : ℕ) → AreNumbered rows next → IsOrdered row_number rows
ordered rows next h = rising_front (map row_number rows) next h

-- ---- rows with their numbers

numbers_more : (rows : List OperationRow) (row : OperationRow) → map row_number (rows ++ row ∷ []) ≡ map row_number rows ++ row.number ∷ []
numbers_more [] row = refl
numbers_more (r ∷ rs) row = ap (λ (ks : List ℕ). row_number r ∷ ks) (numbers_more rs row)

-- a row comes under the next number
pub numbered_more : (rows : List OperationRow) (row : OperationRow) (next : ℕ) → row.number ≡ next → AreNumbered rows next → AreNumbered (rows ++ row ∷ []) (next + 1)
numbered_more rows row next is h =
    subst (λ (ks : List ℕ). IsRising (ks ++ (next + 1) ∷ [])) (sym (numbers_more rows row ∙ ap (λ (n : ℕ). map row_number rows ++ n ∷ []) is))
    (rising_more (map row_number rows) next (next + 1) (omega arith) h)

above_fewer : (p : OperationRow → Bool) (n : ℕ) (rows : List OperationRow) (next : ℕ) → IsAbove n (map row_number rows ++ next ∷ []) → IsAbove n (map row_number (filter p rows) ++ next ∷ [])
above_fewer p n [] next h = h
above_fewer p n (r ∷ rs) next h = elim (cases_Bool (p r)) [
  | inl e ↦ rw e (h.0, above_fewer p n rs next h.1)
  | inr e ↦ rw e (above_fewer p n rs next h.1)
]

-- rows go
pub numbered_fewer : (p : OperationRow → Bool) (rows : List OperationRow) (next : ℕ) → AreNumbered rows next → AreNumbered (filter p rows) next
numbered_fewer p [] next h = h
numbered_fewer p (r ∷ rs) next h = elim (cases_Bool (p r)) [
  | inl e ↦ rw e (above_fewer p (row_number r) rs next h.0, numbered_fewer p rs next h.1)
  | inr e ↦ rw e (numbered_fewer p rs next h.1)
]

-- rows change, and keep their numbers
module _ (p : OperationRow → Bool) (f : OperationRow → OperationRow) (same : (row : OperationRow) → row_number (f row) ≡ row_number row) where
  one_number : (row : OperationRow) (b : Bool) → row_number (if b then f row else row) ≡ row_number row
  one_number row true = same row
  one_number row false = refl

  numbers_same : (rows : List OperationRow) → map row_number (map (λ row. if p row then f row else row) rows) ≡ map row_number rows
  numbers_same [] = refl
  numbers_same (r ∷ rs) = ap (λ (n : ℕ). n ∷ map row_number (map (λ row. if p row then f row else row) rs)) (one_number r (p r)) ∙ ap (λ (ks : List ℕ). row_number r ∷ ks) (numbers_same rs)

  pub numbered_same : (rows : List OperationRow) (next : ℕ) → AreNumbered rows next → AreNumbered (map (λ row. if p row then f row else row) rows) next
  numbered_same rows next h = subst (λ (ks : List ℕ). IsRising (ks ++ next ∷ [])) (sym (numbers_same rows)) h

pub numbered_changed : (number : ℕ) (change : RowChange) (rows : List OperationRow) (next : ℕ) → AreNumbered rows next → AreNumbered (with_row number (changed change) rows) next
numbered_changed number change rows next h = numbered_same (has_row number) (changed change) (changed_number change) rows next h

pub numbered_shown : (token : AuthToken) (rows : List OperationRow) (next : ℕ) → AreNumbered rows next → AreNumbered (with_shown token rows) next
numbered_shown token rows next h = numbered_same (is_for_row token) shown (λ row. refl) rows next h
