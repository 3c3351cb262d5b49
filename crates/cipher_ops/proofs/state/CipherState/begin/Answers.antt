use Rattle.std.proofs.Common.{refl}
use Rattle.cipher_ops.proofs.Pieces.{kept_at_begin}
use Rattle.cipher_ops.proofs.state.CipherState.begin.Goals as goal

pub returns : goal.returns
returns c = record {
  transform = rw (← c.in_ok-transform.ensures.ok) at c.new.ensures;
  limited_is = refl;
  held_is = kept_at_begin c.args.plan c.args.limited c.args.key.now c.args.nonce.now c.empty.result c.empty.ensures;
}
