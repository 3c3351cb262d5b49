use Rattle.std.proofs.Common.{map, refl, ap, ◌∙◌}
use Rattle.std.specs.List.{range_with_len}
use Rattle.aes_core.specs.State.{state_of}
use Rattle.aes_core.specs.Cipher.{cipher}
use Rattle.aes_wide.specs.Planes.{lanes, block, by_rows}
use Rattle.aes_wide.specs.WideKey.{wide_key_of}
use Rattle.aes_wide.proofs.Lanes.{lanes_whole}
use Rattle.aes_wide.proofs.GroupLemmas.{eight_done}
use Rattle.aes_wide.proofs.wide_aes.WideAes.encrypt_eight.Goals as goal

pub rows_of-requires : goal.rows_of-requires
rows_of-requires c =
    let e0 = lanes_whole c.args.x0 c.fits-x0.0 in
    let e1 = lanes_whole c.args.x1 c.fits-x1.0 in
    let e2 = lanes_whole c.args.x2 c.fits-x2.0 in
    let e3 = lanes_whole c.args.x3 c.fits-x3.0 in
    let e4 = lanes_whole c.args.x4 c.fits-x4.0 in
    let e5 = lanes_whole c.args.x5 c.fits-x5.0 in
    let e6 = lanes_whole c.args.x6 c.fits-x6.0 in
    let e7 = lanes_whole c.args.x7 c.fits-x7.0 in
    cc

pub transposed-planes-requires : goal.transposed-planes-requires
unfolding lanes by_rows state_of
transposed-planes-requires c = rw c.rows_of.ensures refl

pub encrypt_planes-done-requires : goal.encrypt_planes-done-requires
unfolding lanes block
encrypt_planes-done-requires c = rw c.transposed-planes.ensures refl

pub rows_of-requires-2 : goal.rows_of-requires-2
unfolding lanes block
rows_of-requires-2 c = rw c.transposed.ensures refl

pub returns : goal.returns
returns c =
    c.rows_of-2.ensures
    ∙ ap (map by_rows) c.transposed.ensures
    ∙ eight_done (cipher (wide_key_of c.args.self.now)) c.args.x0 c.args.x1 c.args.x2 c.args.x3 c.args.x4 c.args.x5 c.args.x6 c.args.x7 c.transposed-planes.result c.encrypt_planes-done.result
    c.fits-x0.0 c.fits-x1.0 c.fits-x2.0 c.fits-x3.0 c.fits-x4.0 c.fits-x5.0 c.fits-x6.0 c.fits-x7.0
    c.fits-x0.1 c.fits-x1.1 c.fits-x2.1 c.fits-x3.1 c.fits-x4.1 c.fits-x5.1 c.fits-x6.1 c.fits-x7.1
    (c.transposed-planes.ensures ∙ ap (λ t. map (block t) (range_with_len 0 8)) c.rows_of.ensures) c.encrypt_planes-done.ensures.blocks
