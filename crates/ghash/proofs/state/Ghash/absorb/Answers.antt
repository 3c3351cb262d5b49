use Rattle.std.proofs.Common.{◌∙◌, ap, ℕ, refl}
use Rattle.std.specs.Int.RustNames.{bit_xor}
use Rattle.ghash.specs.Field.{product}
use Rattle.ghash.proofs.Steps.{holds_more}
use Rattle.ghash.proofs.state.Ghash.absorb.Goals as goal

pub returns : goal.returns
returns c = λ h blocks held.
    holds_more c.args.self.now _ h c.args.block blocks held refl
    (c.product_by-self.ensures c.args.self.now.subkey c.args.self.now.keyed
    ∙ ap (λ (x : ℕ). product (bit_xor c.args.self.now.sum x) c.args.self.now.subkey) c.element.ensures)
