-- Passes that are numbered in their order are all there.
use Rattle.std.proofs.Common.{◌≡◌, ℕ, ◌<◌, ◌==◌, Bool, true, List, [], ◌∷◌, length, get_or, arith}
use Rattle.std.proofs.lemmas.Bool.{eq-eqb}
use Rattle.std.proofs.lemmas.List.Folds.{list_any_at}
use Rattle.ks_outside.specs.declared.entropy.Entropy.{Ghosts as EntropyGhosts}
use Rattle.shared_service.specs.declared.pass.Pass.{Pass}
use Rattle.shared_service.specs.Passes.{AreNumbered, HasAll, number_of}

any_at : {A : Type 0} (test : A → Bool) (xs : List A) (k : ℕ) → k < length xs → ((d : A) → test (get_or xs k d) ≡ true) → Rattle.std.specs.List.list_any test xs ≡ true
any_at test [] k lt here = absurd (omega arith)
any_at test (x ∷ xs) k lt here = list_any_at test (x ∷ xs) k x lt (here x)

pub all_numbered : {N : Type 0} {n : EntropyGhosts N} (passes : List (Pass N n)) (count : ℕ) → length passes ≡ count → AreNumbered passes → HasAll count passes
all_numbered {N} {n} passes count long each number lt =
    any_at (λ (p : Pass N n). number_of p == number) passes number (omega arith) (λ d. eq-eqb (number_of (get_or passes number d)) number (each number d (omega arith)))
