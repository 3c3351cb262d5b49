use Rattle.std.proofs.Common.{length, [], map, replicate, refl, ap, ◌∙◌}
use Rattle.std.specs.List.{range_with_len}
use Rattle.std.proofs.lemmas.Simd.{get_or-replicate}
use Rattle.aes_core.specs.State.{state_of}
use Rattle.aes_wide.specs.Planes.{lanes, block, by_rows, standing}
use Rattle.aes_wide.proofs.Lanes.{lanes_whole}
use Rattle.aes_wide.proofs.Standing.{by_rows_back}
use Rattle.aes_wide.proofs.TransposeLemmas.{back}
use Rattle.aes_wide.proofs.GroupLemmas.{all_bytes, rows_long, rows_fit}
use Rattle.aes_wide.proofs.wide_aes.spread.Goals as goal

pub rows_of-requires : goal.rows_of-requires
rows_of-requires c = ap (replicate 8) (lanes_whole c.args.x c.fits-x.0)

pub transposed-requires : goal.transposed-requires
unfolding lanes by_rows state_of
transposed-requires c = rw c.rows_of.ensures refl

pub returns-clause-whole : goal.returns-clause-whole
unfolding lanes block
returns-clause-whole c = rw c.transposed.ensures refl

pub returns-clause-blocks : goal.returns-clause-blocks
unfolding standing
returns-clause-blocks c = λ b h.
    let y = by_rows c.args.x in
    ap (λ t. by_rows (block t b)) (c.transposed.ensures ∙ ap (λ t. map (block t) (range_with_len 0 8)) c.rows_of.ensures)
    ∙ ap by_rows
    (back (replicate 8 y) refl (λ k hk. ap length (get_or-replicate 8 k y [] hk) ∙ rows_long c.args.x c.fits-x.0 c.fits-x.1) (λ k hk. all_bytes y k hk (rows_fit c.args.x c.fits-x.0 c.fits-x.1)) b h
    ∙ get_or-replicate 8 b y [] h)
    ∙ by_rows_back c.args.x c.fits-x.0
