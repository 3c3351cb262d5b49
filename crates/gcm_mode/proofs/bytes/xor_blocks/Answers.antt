-- The sum of two vectors is that of their bytes.
use Rattle.std.proofs.Common.{◌≡◌, length, arith, rules}
use Rattle.gcm_mode.proofs.KeyStream.{xor_bytes_zip}
use Rattle.gcm_mode.proofs.bytes.xor_blocks.Goals as goal

pub returns : goal.returns
returns c =
    let block : length c.args.block ≡ 16 = search rules in
    let key : length c.args.key.now ≡ 16 = search rules in
    xor_bytes_zip c.args.block c.args.key.now (omega (arith, block, key))
