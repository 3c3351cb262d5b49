use Rattle.std.proofs.Common.{◌≡◌, ℕ, ap, ◌∙◌, sym, arith}
use Rattle.ghash.specs.Chains.{folded_from}
use Rattle.ghash.specs.Lanes.{lane_of}
use Rattle.ghash.proofs.BlockLemmas.{row_lane}
use Rattle.ghash.proofs.ChainLemmas.{folded_none, folded_more}
use Rattle.ghash.proofs.chains.end_of.Goals as goal

pub lanes-init : goal.lanes-init
lanes-init c = sym (folded_none c.args.subkey 0 (lane_of c.args.last.now))

pub lanes-preserved : goal.lanes-preserved
lanes-preserved c =
    c.product_by-total.ensures c.args.subkey c.requires.table
    ∙ folded_more c.args.subkey 0 (lane_of c.args.last.now) c.lanes.l c.lanes.total c.value_of_row.result c.lanes.invariant
    (c.value_of_row.ensures ∙ row_lane c.args.last.now c.turned-rows.result c.turned-rows.ensures.places c.lanes.l (omega arith))

pub returns : goal.returns
returns c = let end : c.lanes.l ≡ 16 = omega arith in c.lanes.invariant ∙ ap (λ (n : ℕ). folded_from c.args.subkey 0 (lane_of c.args.last.now) n) end
