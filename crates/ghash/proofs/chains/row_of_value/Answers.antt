use Rattle.std.proofs.Common.{◌∙◌, ap, ℕ, List, slice_index_or}
use Rattle.ghash.specs.Lanes.{gathered}
use Rattle.ghash.proofs.BlockLemmas.{value_back}
use Rattle.ghash.proofs.chains.row_of_value.Goals as goal

pub returns-clause-value : goal.returns-clause-value
returns-clause-value c =
    ap (λ (row : List ℕ). gathered (λ p. slice_index_or row p 0) 16) (c.row_of.ensures.same ∙ c.block_of.ensures) ∙ value_back c.args.v c.ranges.v.fits
