use Rattle.std.proofs.Common.{ℕ, List, sym, ◌∙◌, subst}
use Rattle.std.proofs.lemmas.List.{append-nil}
use Rattle.hmac_core.specs.Hmac.{inner_key}
use Rattle.hmac_core.proofs.Blocks.{take-masked}
use Rattle.hmac_core.proofs.keyed.Keyed.new.Goals as goal

pub returns : goal.returns
returns g c =
    let text : List ℕ = inner_key g.D.Hash.hash g.D.Hash.block c.args.key.now in
    record {
      inner = subst (λ m. g.D.Digest.holds c.hasher_of.result m) (take-masked g.D.Hash.hash g.D.Hash.block 0x36 c.args.key.now _ _ c.key_as_block-block.ensures c.masked.ensures ∙ sym (append-nil text)) c.hasher_of.ensures;
      outer = subst (λ m. g.D.Digest.holds c.hasher_of-2.result m) (take-masked g.D.Hash.hash g.D.Hash.block 0x5c c.args.key.now _ _ c.key_as_block-block.ensures c.masked-2.ensures) c.hasher_of-2.ensures;
    }
