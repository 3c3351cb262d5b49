-- The blocks before this one were taken.
use Rattle.std.proofs.Common.{ℕ, List, ◌++◌, take}
use Rattle.ghash.specs.Hash.{Holds}
use Rattle.ghash.proofs.state.Ghash.absorb_each.Given as goal

abbrev pub invariant-each : goal.invariant-each
invariant-each l = (h : List ℕ) (before : List (List ℕ)) → Holds l.initial.self h before → Holds l.self h (before ++ take l.block-index l.blocks)
