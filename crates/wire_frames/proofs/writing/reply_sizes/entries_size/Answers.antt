use Rattle.std.proofs.Common.{◌≡◌, ℕ, ◌+◌, ◌<◌, List, length, take, get_or, flat_map, arith, refl}
use Rattle.std.proofs.lemmas.Grind.{common_steps}
use Rattle.wire_frames.specs.Replies.{entry_of}
use Rattle.wire_frames.specs.Spelling.{counted}
use Rattle.wire_frames.proofs.Adding.{size_sum, size_exact, size_capped}
use Rattle.wire_frames.proofs.writing.reply_sizes.entries_size.Goals as goal

one_more : (xs : List (List ℕ × ℕ)) (i : ℕ) (x : List ℕ × ℕ) → i < length xs → x ≡ get_or xs i x
    → length (flat_map entry_of (take (i + 1) xs)) ≡ length (flat_map entry_of (take i xs)) + length (counted x.0) + 8
one_more xs i x lt is = grind (arith, common_steps)

pub loop-alias-preserved : goal.loop-alias-preserved
loop-alias-preserved c =
    let more = one_more c.args.entries.now c.loop-alias.alias-index c.loop-alias-item.result c.loop-alias-test.true c.loop-alias-item.is in
    let two = size_sum _ _ _ _ _ c.loop-alias.invariant.0 c.counted_size.ensures.size refl in
    (rw c.min-size.ensures (size_capped _ _ (size_sum _ 8 _ 8 _ two (size_exact 8 8 refl) more)), omega arith)
