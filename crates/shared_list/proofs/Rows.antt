-- Rows of passes, by their places.
use Rattle.std.proofs.Common.{◌≡◌, ℕ, suc, ◌+◌, ◌<◌, List, [], ◌∷◌, ◌++◌, length, get_or, arith, sym, ap, ◌∙◌, subst, length-append}
use Rattle.std.proofs.lemmas.List.{get_or_append_left}
use Rattle.std.proofs.Math.Seq.{get_or-append_seam}
use mathlib.Core.Logic.{dite}
use native.Mathlib.Decide.{ℕ_discrete}
use Rattle.shared_list.specs.Lists.{entry, counted}

-- one more behind the others
pub each_push : {A : Type 0} (P : ℕ → A → Type 0) (xs : List A) (a : A) → ((k : ℕ) (d : A) → k < length xs → P k (get_or xs k d)) → P (length xs) a
    → (k : ℕ) (d : A) → k < length (xs ++ a ∷ []) → P k (get_or (xs ++ a ∷ []) k d)
each_push {A} P xs a each last k d lt = dite (ℕ_discrete k (length xs))
    (λ e. subst (λ (x : ℕ × A). P x.0 x.1) (λ i. (sym e i, sym (ap (λ (n : ℕ). get_or (xs ++ a ∷ []) n d) e ∙ get_or-append_seam xs a [] d) i)) last)
    (λ ne. let n = length-append xs (a ∷ []) in let inside : k < length xs = omega arith in subst (P k) (sym (get_or_append_left xs (a ∷ []) d k inside)) (each k d inside))

-- one item more
pub counted_next : (n k : ℕ) → counted n (k + 1) ≡ counted n k ++ entry n k ∷ []
counted_next n k = let next : k + 1 ≡ suc k = omega arith in ap (counted n) next
