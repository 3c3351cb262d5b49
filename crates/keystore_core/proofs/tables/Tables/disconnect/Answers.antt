use Rattle.std.proofs.Common.{sym, ◌∙◌}
use Rattle.keystore_core.proofs.Left.{busy_is, disconnected, ruling_is, stays_connected}
use Rattle.keystore_core.proofs.tables.Tables.disconnect.Goals as goal

pub returns-in-Err-clause-serves : goal.returns-in-Err-clause-serves
returns-in-Err-clause-serves c = λ setup past stands.
    rw (c.refused.ensures.reply, c.refused.ensures.job, c.refused.ensures.drawn)
    (stays_connected setup past c.args.self.now c.args.caller stands c.requires _ _
    (sym (c.in-Err.ensures.first ∙ ruling_is setup past c.args.self.now c.args.caller stands c.requires _ _ c.is_some.ensures c.has_busy-busy.ensures)))

pub returns-clause-serves : goal.returns-clause-serves
returns-clause-serves c = λ setup past stands.
    let ruling = c.in_default.ensures.first ∙ ruling_is setup past c.args.self.now c.args.caller stands c.requires _ _ c.is_some.ensures c.has_busy-busy.ensures in
    rw (c.undrawn.ensures.reply, c.undrawn.ensures.job, c.undrawn.ensures.drawn)
    (disconnected setup past c.args.self.now c.args.caller stands c.requires _ (sym ruling)
    (sym (busy_is setup past c.args.self.now c.args.caller stands c.requires) ∙ sym c.has_busy-busy.ensures ∙ c.in_default.ensures.idle) (c.end_client.ensures.ends setup past stands))
