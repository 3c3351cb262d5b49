-- The nonce, and the number behind it.
use Rattle.std.proofs.Common.{◌∷◌, [], refl, ◌∙◌}
use Rattle.gcm_mode.proofs.Plain.{block_put}
use Rattle.whole_outputs.proofs.gcm.counter_block.Goals as goal

pub returns : goal.returns
returns c =
    block_put c.args.nonce.now c.copy_from_slice.new.self _ c.copy_from_slice-2.new.self (0 ∷ 0 ∷ 0 ∷ 0 ∷ []) refl c.copy_from_slice.ensures.after c.requires
    (c.copy_from_slice-2.ensures.after ∙ c.to_be_bytes.ensures)
