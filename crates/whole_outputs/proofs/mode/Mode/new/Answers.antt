-- A sealing of nothing yet.
use Rattle.std.proofs.Common.{Bool, true, ℕ, sym, ap, ◌∙◌}
use Rattle.aes_wide.specs.WideKey.{wide_key_of}
use Rattle.tags.specs.declared.plan.Plan.TheVariants.{Gcm}
use Rattle.whole_outputs.proofs.GcmLemmas.{at_raw, under}
use Rattle.whole_outputs.proofs.mode.Mode.new.Goals as goal

pub returns-then-seal : goal.returns-then-seal
returns-then-seal c = (
  c.in-Gcm.is ∙ ap (λ (b : Bool). Gcm b c.in-Gcm.tag) c.if-seal.true ∙ ap (λ (n : ℕ). Gcm true n) (sym c.new-gcm.ensures.tag),
  at_raw c.new-gcm.result c.args.key.now c.args.nonce.now _
      (under c.new-gcm.result c.args.key.now (wide_key_of c.aes_of-in-Gcm.result) c.args.nonce.now c.aes_of-in-Gcm.ensures c.new-gcm.ensures.gcm),
)
