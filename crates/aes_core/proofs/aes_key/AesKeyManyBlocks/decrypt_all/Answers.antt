use Rattle.std.proofs.Common.{◌<◌, length, get_or, set, [], ap, ◌∙◌, arith}
use Rattle.std.proofs.lemmas.List.Edits.{map_over_more}
use Rattle.std.proofs.lemmas.List.{get_or_default}
use Rattle.aes_core.specs.Cipher.{inverse_cipher}
use Rattle.aes_core.specs.KeyOf.{key_of}
use Rattle.aes_core.proofs.aes_key.AesKeyManyBlocks.decrypt_all.Goals as goal

pub each-preserved : goal.each-preserved
each-preserved c =
    let within : c.each.i < length c.each.blocks = omega arith in
    let before : c.each.i < length c.args.blocks.now = omega arith in
    let block = get_or c.each.blocks c.each.i [] in
    ap (set c.each.blocks c.each.i) c.decrypt.ensures
    ∙ map_over_more (inverse_cipher (key_of c.args.self.now)) c.args.blocks.now c.each.blocks c.each.i block before c.each.invariant (get_or_default c.each.blocks c.each.i [] block within)
