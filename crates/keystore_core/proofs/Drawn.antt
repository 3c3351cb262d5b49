-- Draws one after another.
use Rattle.std.proofs.Common.{◌≡◌, ℕ, ◌+◌, false, List, ◌++◌, length, take, Result, Ok, Err, IfOk, arith, length-append, nat_lt}
use Rattle.std.proofs.lemmas.Bool.Decides.{nat_tests}
use Rattle.std.proofs.lemmas.List.{take_all}
use Rattle.tags.specs.declared.bytes.NoMemory.{NoMemory}
use Rattle.ks_outside.specs.Shown.{Drew}
use Rattle.ks_outside.specs.declared.entropy.Entropy.{Ghosts}
use Rattle.ks_outside.proofs.Shown.{drew_none, drew_on}
use Rattle.keystore_core.specs.declared.answered.Answered.{Answered}
use Rattle.keystore_core.specs.Drawn.{DrewFor, DrewForResult, IsUndrawn}

module _ {N : Type 0} (g : Ghosts N) where
  -- both pieces, whole
  pub both_drawn : (a b c : N) (first second : List ℕ) (total : ℕ) → total ≡ length first + length second → Drew g a b first false → Drew g b c second false
      → Drew g a c (take (length first + length second) (first ++ second)) (nat_lt (length first + length second) total)
  both_drawn a b c first second total whole p q =
      let all : take (length first + length second) (first ++ second) ≡ first ++ second =
      take_all (length first + length second) (first ++ second) (omega (arith, length-append first second)) in
      let none : nat_lt (length first + length second) total ≡ false = grind (arith, nat_tests, whole) in
      rw (all, none) (drew_on g a b c first second false false p q)

  -- an answer for which nothing was drawn
  pub undrawn : (entropy : N) (answered : Answered) → IsUndrawn answered → DrewFor g entropy entropy answered
  undrawn entropy answered is = rw (is.nothing, is.no_fault) (drew_none g entropy)

  pub none_drawn : (entropy : N) (result : Result Answered NoMemory) → IfOk result (λ answered. IsUndrawn answered) → DrewForResult g entropy entropy result
  none_drawn entropy (Ok answered) is = undrawn entropy answered is
  none_drawn entropy (Err fault) is = drew_none g entropy
