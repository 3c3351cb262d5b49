-- Additional data, before any text.
use Rattle.std.proofs.Common.{true, false, ℕ, ◌++◌, sym, ap, ◌∙◌}
use Rattle.tags.specs.declared.plan.Plan.TheVariants.{Gcm}
use Rattle.whole_outputs.proofs.GcmLemmas.{at_raw, at_none}
use Rattle.whole_outputs.proofs.mode.Mode.aad.Goals as goal

pub returns-in-Seal : goal.returns-in-Seal
returns-in-Seal c = λ plan key nonce aad held.
    let h = rw c.in-Seal.is at held in (
      h.0 ∙ ap (λ (n : ℕ). Gcm true n) (sym c.aad.ensures.tag),
      at_raw c.aad.new.self key nonce (aad ++ c.args.input.now) (c.aad.ensures.gcm key nonce aad (at_none c.in-Seal.gcm key nonce aad h.1)),
    )

pub returns-in-Open : goal.returns-in-Open
returns-in-Open c = λ plan key nonce aad held.
    let h = rw c.in-Open.is at held in
    (h.0 ∙ ap (λ (n : ℕ). Gcm false n) (sym c.aad-in-Open.ensures.tag), c.aad-in-Open.ensures.gcm key nonce aad h.1)
