-- One piece more.
use Rattle.std.proofs.Common.{◌≡◌, ℕ, ◌+◌, List, ◌∷◌, Some, subst, arith}
use Rattle.std.specs.Prelude.{sum, sum_by}
use Rattle.std.proofs.lemmas.List.Sums.{sum_by-cons}
use Rattle.file_disk.specs.declared.real_file.RealFile.{Ghosts}
use Rattle.file_disk.specs.Rewriting.{Again, Pieces}

pub one_more : {F : Type 0} (g : Ghosts F) (from at n : ℕ) (old mid new : F) → (counts : List ℕ) × Pieces g from counts old mid × (at ≡ from + sum counts)
    → Again g at (Some n) mid new → (counts : List ℕ) × Pieces g from counts old new × (at + n ≡ from + sum counts)
one_more g from at n old mid new so_far again =
    let more : sum (n ∷ so_far.0) ≡ n + sum so_far.0 = sum_by-cons (λ (x : ℕ). x) n so_far.0 in
    (n ∷ so_far.0, (mid, so_far.1, subst (λ (place : ℕ). Again g place (Some n) mid new) so_far.2 again), omega (arith, so_far.2, more))
