use Rattle.std.proofs.Common.{◌≡◌, ℕ, ◌<◌, length, slice_index_or}
use Rattle.ghash.specs.Field.{shifted}
use Rattle.ghash.proofs.chains.lower.Given as goal

abbrev pub invariant-entries : goal.invariant-entries
invariant-entries l = record {
  count : length l.out ≡ 16;
  entries : (k : ℕ) → k < l.n → slice_index_or l.out k 0 ≡ shifted (slice_index_or l.table k 0) 4;
}
