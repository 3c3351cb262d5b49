-- The numbers that a history gives are bounded by how many entries it has.
use Rattle.std.proofs.Common.{ℕ, ◌+◌, ◌≤◌, Bool, true, false, if◌then◌else◌, [], ◌∷◌, length, arith}
use Rattle.rule_model.specs.declared.event.Act.{Act}
use Rattle.rule_model.specs.Entries.{History, admits, count_of}

one_more : (b : Bool) (n m : ℕ) → n ≤ m → (if b then n + 1 else n) ≤ m + 1
one_more true n m few = omega (arith, few)
one_more false n m few = omega (arith, few)

pub count_few : (test : Act → Bool) (past : History) → count_of test past ≤ length past
count_few test [] = omega arith
count_few test (entry ∷ past) = omega (arith, one_more (admits test entry) (count_of test past) (length past) (count_few test past))
