use Rattle.std.proofs.Common.{length, sym, ◌∙◌}
use Rattle.use_rules.specs.Plans.{nonce_given, nonce_wanted}
use Rattle.use_rules.specs.Table.{asked_of, key_of}
use Rattle.keymint_ops.proofs.Fitting.{plan_fits}
use Rattle.keymint_ops.proofs.begin.plan_begin.Goals as goal

pub returns-clause-fits : goal.returns-clause-fits
returns-clause-fits c drawn e =
    let facts = c.args.facts.now in
    let key = c.requires c.in-Ok.ensures.fits in
    let size = length c.args.material.now in
    rw (c.in_ok-nonce.ensures ∙ c.nonce_given.ensures)
    (plan_fits c.in-Ok.plan c.args.material.now drawn (nonce_given (asked_of facts) (key_of facts)) (nonce_wanted (asked_of facts) (key_of facts))
    (c.in-Ok.ensures.workable size key) (c.in-Ok.ensures.takes size key) c.in-Ok.ensures.nonce (e ∙ c.nonce_wanted-wanted.ensures))

pub returns-in-Err-clause-gives : goal.returns-in-Err-clause-gives
returns-in-Err-clause-gives c = sym c.in-Err.ensures.first
