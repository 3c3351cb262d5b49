use Rattle.std.proofs.Common.{◌≡◌, ◌≤◌, ◌+◌, ◌-◌, length, map, take, drop, arith, ap, ◌∙◌}
use Rattle.aes_core.specs.Cipher.{cipher}
use Rattle.aes_wide.specs.WideKey.{wide_key_of}
use Rattle.aes_wide.proofs.GroupLemmas.{part_done, all_done}
use Rattle.aes_wide.proofs.wide_aes.WideAesManyBlocks.encrypt_all.Goals as goal

pub groups-preserved : goal.groups-preserved
groups-preserved c =
    let f = cipher (wide_key_of c.args.self.now) in
    let eight : c.groups.done + 8 - c.groups.done ≡ 8 = omega arith in
    let room : c.groups.done + 8 ≤ length c.groups.blocks = omega arith in
    rw eight (part_done f c.groups.done 8 c.args.blocks.now c.groups.blocks c.encrypt_group.new.group c.groups.invariant room
    (c.encrypt_group.ensures ∙ ap (λ k. map f (take k (drop c.groups.done c.groups.blocks))) eight))

pub returns-then-done-blocks : goal.returns-then-done-blocks
returns-then-done-blocks c =
    let f = cipher (wide_key_of c.args.self.now) in
    let k = length c.groups.blocks - c.groups.done in
    let room : c.groups.done + k ≤ length c.groups.blocks = omega (arith, c.groups.invariant.within, c.groups.invariant.same) in
    let all : c.groups.done + k ≡ length c.args.blocks.now = omega (arith, c.groups.invariant.within, c.groups.invariant.same) in
    all_done f (c.groups.done + k) c.args.blocks.now _
    (part_done f c.groups.done k c.args.blocks.now c.groups.blocks c.encrypt_few.new.few c.groups.invariant room c.encrypt_few.ensures) all

pub returns-else-done-blocks : goal.returns-else-done-blocks
returns-else-done-blocks c =
    let all : c.groups.done ≡ length c.args.blocks.now = omega (arith, c.groups.invariant.within, c.groups.invariant.same) in
    all_done (cipher (wide_key_of c.args.self.now)) c.groups.done c.args.blocks.now c.groups.blocks c.groups.invariant all
