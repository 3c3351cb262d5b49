use Rattle.std.proofs.Common.{◌+◌, arith, slice_index_or, List, ℕ, ap}
use Rattle.ghash.specs.Lanes.{byte_in}
use Rattle.ghash.proofs.Gather.{none_filled, one_filled}
use Rattle.ghash.proofs.wide.loaded.Goals as goal

pub blocks-2-init : goal.blocks-2-init
blocks-2-init c = none_filled (λ p k. byte_in c.args.blocks.now (c.args.at + p) k)

pub blocks-2-preserved : goal.blocks-2-preserved
blocks-2-preserved c =
    one_filled c.blocks-2.x c.blocks-2.i c.row_of.result (λ p k. byte_in c.args.blocks.now (c.args.at + p) k) c.blocks-2.invariant (omega arith) c.row_of.ensures.row
    (λ l h. ap (λ (row : List ℕ). slice_index_or row l 0) c.row_of.ensures.same)
