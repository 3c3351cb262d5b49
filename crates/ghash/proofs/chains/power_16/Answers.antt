use Rattle.std.proofs.Common.{◌≡◌, ℕ, ap, ◌∙◌, sym, arith}
use Rattle.ghash.specs.Field.{product}
use Rattle.ghash.specs.Chains.{repeated}
use Rattle.ghash.proofs.ChainLemmas.{repeated_none, repeated_more}
use Rattle.ghash.proofs.chains.power_16.Goals as goal

pub powers-init : goal.powers-init
powers-init c = sym (repeated_none c.args.subkey c.args.subkey)

pub powers-preserved : goal.powers-preserved
powers-preserved c =
    c.product_by-power.ensures c.args.subkey c.requires ∙ ap (λ (t : ℕ). product t c.args.subkey) c.powers.invariant
    ∙ sym (repeated_more c.args.subkey c.powers._i c.args.subkey)

pub returns : goal.returns
returns c = let end : c.powers._i ≡ 15 = omega arith in c.powers.invariant ∙ ap (λ (n : ℕ). repeated c.args.subkey n c.args.subkey) end
