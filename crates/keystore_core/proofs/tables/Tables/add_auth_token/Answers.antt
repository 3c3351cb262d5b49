use Rattle.std.proofs.Common.{sym, ◌∙◌}
use Rattle.keystore_core.proofs.Shown.{accepted, full, refused, ruling_is}
use Rattle.keystore_core.proofs.tables.Tables.add_auth_token.Goals as goal

pub returns-in-Err-clause-serves : goal.returns-in-Err-clause-serves
returns-in-Err-clause-serves c = λ setup past stands.
    rw (c.refused.ensures.reply, c.refused.ensures.job, c.refused.ensures.drawn)
    (refused setup past c.args.self.now c.args.caller c.args.token stands c.requires _ _
    (sym (c.in-Err.ensures.first ∙ ruling_is setup past c.args.self.now c.args.caller c.args.token stands c.requires _ _ c.has_right_mac-is_right.ensures c.system_facts.ensures)))

pub returns-in-Ok-clause-serves : goal.returns-in-Ok-clause-serves
returns-in-Ok-clause-serves c = λ setup past stands.
    let ruling = c.in_default.ensures.first ∙ ruling_is setup past c.args.self.now c.args.caller c.args.token stands c.requires _ _ c.has_right_mac-is_right.ensures c.system_facts.ensures in
    rw (c.undrawn.ensures.reply, c.undrawn.ensures.job, c.undrawn.ensures.drawn)
    (accepted setup past c.args.self.now c.args.caller c.args.token stands c.requires _ (sym ruling) c.in-Ok.ensures.full c.in-Ok.ensures.accepts)

pub returns-in-Err-accept-clause-serves : goal.returns-in-Err-accept-clause-serves
returns-in-Err-accept-clause-serves c = λ setup past stands.
    let ruling = c.in_default.ensures.first ∙ ruling_is setup past c.args.self.now c.args.caller c.args.token stands c.requires _ _ c.has_right_mac-is_right.ensures c.system_facts.ensures in
    rw (c.stopped.ensures.reply, c.stopped.ensures.job, c.stopped.ensures.drawn)
    (full setup past c.args.self.now c.args.caller c.args.token stands c.requires _ (sym ruling) c.in-Err-accept.ensures.full c.in-Err-accept.ensures.same)
