-- One block more was added.
use Rattle.std.proofs.Common.{◌≡◌, ◌+◌, ◌-◌, ◌*◌, ◌≤◌, length, take, drop, ap, ◌∙◌, arith, length-take, length-drop}
use Rattle.std.proofs.lemmas.List.{take_all, drop_all, append-nil}
use Rattle.gcm_mode.specs.Bytewise.{xor_by, stream_byte}
use Rattle.gcm_mode.proofs.KeyStream.{length-xor_by}
use Rattle.gcm_mode.proofs.Blockwise.{part_added, length-put_mid, block_added}
use Rattle.gcm_mode.proofs.bytes.add_blocks.Goals as goal

pub each-preserved : goal.each-preserved
each-preserved c =
    let at = 16 * c.each.i in
    let fits : at + 16 ≤ length c.args.bytes.now = omega (arith, c.requires) in
    let here : at + 16 ≤ length c.each.bytes = omega (arith, fits, c.each.invariant.size) in
    let block = take (at + 16 - at) (drop at c.each.bytes) in
    let size : length block ≡ 16 = omega (arith, length-take (at + 16 - at) (drop at c.each.bytes), length-drop at c.each.bytes, here) in
    let sum : c.copy_from_slice-in-each.new.self ≡ xor_by (stream_byte c.args.keys.now) (0 + at) block =
    block_added c.args.keys.now c.each.i block _ (omega (arith, size))
    (c.copy_from_slice-in-each.ensures.after ∙ (rw c.copy_from_slice.ensures.after at c.xor_blocks-sum.ensures)) in
    record {
      bytes = part_added (stream_byte c.args.keys.now) 0 c.args.bytes.now c.each.bytes _ at (at + 16 - at) (16 * (c.each.i + 1)) c.each.invariant.bytes (omega arith) (omega (arith, fits)) sum;
      size = length-put_mid c.each.bytes _ at (at + 16 - at) (omega (arith, here)) (ap length sum ∙ length-xor_by (stream_byte c.args.keys.now) (0 + at) block ∙ omega (arith, size)) ∙ c.each.invariant.size;
    }

pub returns : goal.returns
returns c =
    let all : 16 * c.each.i ≡ length c.args.bytes.now = omega (arith, c.requires) in
    c.each.invariant.bytes
    ∙ rw (take_all (16 * c.each.i) c.args.bytes.now (omega (arith, all)), drop_all (16 * c.each.i) c.args.bytes.now (omega (arith, all)))
    (append-nil (xor_by (stream_byte c.args.keys.now) 0 c.args.bytes.now))
