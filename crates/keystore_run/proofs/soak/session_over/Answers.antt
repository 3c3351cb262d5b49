use Rattle.std.proofs.Common.{[], refl}
use Rattle.journal_records.specs.LastingPart.{empty_lasting}
use Rattle.keystore_core.specs.Opening.{is_opened, setup_of}
use Rattle.keystore_run.proofs.Soaking.{load_session}
use Rattle.keystore_run.proofs.soak.session_over.Goals as goal

pub new-requires : goal.new-requires
new-requires g c =
    let setup = setup_of c.demo-device.result c.in_ok-policy.policy 16 c.in-Ok-open.engine in
    ∣ record {
      setup = setup;
      past = [];
      stands = c.in-Ok-open.ensures.stands setup (is_opened c.demo-device.result c.in_ok-policy.policy 16 c.in-Ok-open.engine);
      none = λ ticket. refl;
    } ∣₁

pub returns-clause-session : goal.returns-clause-session
returns-clause-session g c =
    let setup = setup_of c.demo-device.result c.in_ok-policy.policy 16 c.in-Ok-open.engine in
    let opens = is_opened c.demo-device.result c.in_ok-policy.policy 16 c.in-Ok-open.engine in
    load_session g.D.Disk c.args.disk.now c.format.new.disk c.open.new.disk c.demo-device.result c.in_ok-policy.policy c.in-Ok-open.engine c.new.result
    c.requires.empty c.demo-device.ensures c.in_ok-policy.ensures
    c.in-Ok.ensures.formatted c.in-Ok.ensures.goes.telling (c.in-Ok-open.ensures.stands setup opens) (c.in-Ok-open.ensures.holds setup opens)
    (c.in-Ok-open.ensures.finds empty_lasting) c.new.ensures.engine (c.new.ensures.jobs setup)
