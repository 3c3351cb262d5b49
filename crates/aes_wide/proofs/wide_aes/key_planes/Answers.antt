use Rattle.std.proofs.Common.{◌<◌, ◌∙◌, arith, refl}
use Rattle.aes_core.specs.KeyOf.{key_of}
use Rattle.aes_wide.specs.Planes.{lanes}
use Rattle.aes_wide.proofs.GroupLemmas.{more_keys, rounds_few}
use Rattle.aes_wide.proofs.wide_aes.key_planes.Goals as goal

pub of-none-requires : goal.of-none-requires
unfolding lanes
of-none-requires c = refl

pub overflow_add-count : goal.overflow_add-count
overflow_add-count c = omega (arith, c.rounds-count.ensures, rounds_few c.args.plain.now)

pub offset_bounds-keys-r : goal.offset_bounds-keys-r
offset_bounds-keys-r c = omega (arith, c.rounds-count.ensures, rounds_few c.args.plain.now)

pub bounds-keys-r : goal.bounds-keys-r
bounds-keys-r c = omega (arith, c.rounds-count.ensures, rounds_few c.args.plain.now)

pub each-preserved : goal.each-preserved
each-preserved c =
    let few : c.each.r < 15 = omega (arith, c.rounds-count.ensures, rounds_few c.args.plain.now) in
    more_keys c.each.r c.each.keys c.of-key.result c.spread.result (key_of c.args.plain.now) few c.each.invariant c.of-key.ensures c.spread.ensures.whole
    (λ b h. c.spread.ensures.blocks b h ∙ c.held_key.ensures)
