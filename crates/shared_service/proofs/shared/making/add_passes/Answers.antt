use Rattle.std.proofs.Common.{◌≡◌, ℕ, length, ◌∙◌, subst, arith}
use Rattle.turn_lock.specs.Passes.{lock_id, made_of, name_of}
use Rattle.turn_lock.specs.Resting.{resting_number}
use Rattle.shared_service.specs.Passes.{IsNewPass}
use Rattle.shared_service.proofs.NewPasses.{each_more, longer_one}
use Rattle.shared_service.proofs.shared.making.add_passes.Goals as goal

pub loop-made-preserved : goal.loop-made-preserved
loop-made-preserved g c =
    let inv = c.loop-made.invariant in
    let lock = lock_id c.args.lock.now in
    let name = name_of c.args.lock.now in
    let is : resting_number c.rest-pass.result ≡ made_of c.loop-made.maker = c.rest-pass.ensures.same.0 ∙ c.another.ensures.number in
    let below = c.loop-made-test.true in
    let made = inv.made in
    let many = inv.count in
    let next = c.another.ensures.maker.1 in
    let long = longer_one c.loop-made.passes.items c.add_pass.new.passes.items c.new_pass.result c.add_pass.ensures.added in
    let room = c.add_pass.ensures.places in
    let places = inv.places in
    let new : IsNewPass lock name c.args.count (resting_number c.rest-pass.result) c.new_pass.result = c.new_pass.ensures lock name c.args.count c.rest-pass.ensures.ours (omega arith) in
    let at : resting_number c.rest-pass.result ≡ length c.loop-made.passes.items = omega arith in
    record {
      ours = c.another.ensures.maker.0;
      made = omega arith;
      count = omega arith;
      places = omega arith;
      each = each_more (IsNewPass lock name c.args.count) c.loop-made.passes.items c.add_pass.new.passes.items c.new_pass.result c.add_pass.ensures.added inv.each
          (subst (λ (k : ℕ). IsNewPass lock name c.args.count k c.new_pass.result) at new);
    }

pub returns-clause-each : goal.returns-clause-each
returns-clause-each g c k d lt =
    let inv = c.loop-made.invariant in
    let lock = lock_id c.args.lock.now in
    let name = name_of c.args.lock.now in
    let is : resting_number c.rest-pass-2.result ≡ made_of c.loop-made.maker = c.rest-pass-2.ensures.same.0 ∙ c.another-2.ensures.number in
    let past = c.loop-made-test.false in
    let end = c.loop-made.auto._made-end in
    let some = c.requires.some in
    let made = inv.made in
    let many = inv.count in
    let next = c.another-2.ensures.maker.1 in
    let rested = c.rest_maker-maker.ensures.same in
    let long = longer_one c.loop-made.passes.items c.add_pass-2.new.passes.items c.new_pass-2.result c.add_pass-2.ensures.added in
    let new : IsNewPass lock name c.args.count (resting_number c.rest-pass-2.result) c.new_pass-2.result = c.new_pass-2.ensures lock name c.args.count c.rest-pass-2.ensures.ours (c.rest_maker-maker.ensures.ours, omega arith) in
    let at : resting_number c.rest-pass-2.result ≡ length c.loop-made.passes.items = omega arith in
    each_more (IsNewPass lock name c.args.count) c.loop-made.passes.items c.add_pass-2.new.passes.items c.new_pass-2.result c.add_pass-2.ensures.added inv.each
    (subst (λ (k : ℕ). IsNewPass lock name c.args.count k c.new_pass-2.result) at new) k d (omega arith)
