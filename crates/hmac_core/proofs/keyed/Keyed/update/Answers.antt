use Rattle.std.proofs.Common.{append_assoc, subst}
use Rattle.hmac_core.specs.Hmac.{inner_key}
use Rattle.hmac_core.proofs.keyed.Keyed.update.Goals as goal

pub returns : goal.returns
returns g c key text held = record {
  inner = subst (g.D.Digest.holds c.update.new.self) (append_assoc (inner_key g.D.Hash.hash g.D.Hash.block key) text c.args.input.now) (c.update.ensures _ held.inner);
  outer = held.outer;
}
