-- The two writes make the block.
use Rattle.std.proofs.Common.{◌≡◌, [], length, drop, ◌∙◌, arith, rules}
use Rattle.std.proofs.lemmas.List.{drop-drop, drop_all}
use Rattle.gcm_mode.proofs.Plain.{block_put}
use Rattle.gcm_mode.proofs.stream.put_counter.Goals as goal

pub returns : goal.returns
returns c =
    let long : length c.args.out.now ≡ 16 = search rules in
    let none : drop 4 (drop 12 c.args.out.now) ≡ [] = drop-drop 4 12 c.args.out.now ∙ drop_all 16 c.args.out.now (omega arith) in
    block_put c.args.nonce.now c.copy_from_slice.new.self _ c.copy_from_slice-2.new.self (drop 12 c.args.out.now) none c.copy_from_slice.ensures.after (search rules) (c.copy_from_slice-2.ensures.after ∙ c.to_be_bytes.ensures)
