use Rattle.std.proofs.Common.{[], refl}
use Rattle.rule_model.specs.Setup.{Setup}
use Rattle.keystore_run.specs.Runs.{Opened, Refused}
use Rattle.keystore_core.specs.Opening.{IsOpenedFrom, is_opened, opened_from, opened_images, setup_of}
use Rattle.keystore_run.proofs.Openings.{opened_none, refused, session_stands}
use Rattle.keystore_run.proofs.run.serve_store.Goals as goal

pub returns-in-Err-clause-since_call : goal.returns-in-Err-clause-since_call
returns-in-Err-clause-since_call g c = rw c.refusal.ensures (Refused (record { source = refl; sink = refl; entropy = refl })
    (refused g.D.Disk c.args.handed.disk.now c.open.new.disk c.in-Err.fault c.in-Err.ensures.brought c.in-Err.ensures.refused c.in-Err.ensures.goes c.in-Err.ensures.reads c.in-Err.ensures.finds))

pub returns-in-Err-clause-since_opened : goal.returns-in-Err-clause-since_opened
returns-in-Err-clause-since_opened g c = rw c.refusal.ensures (Refused (record { source = refl; sink = refl; entropy = refl })
    (refused g.D.Disk c.args.handed.disk.now c.open.new.disk c.in-Err.fault c.in-Err.ensures.brought c.in-Err.ensures.refused c.in-Err.ensures.goes c.in-Err.ensures.reads c.in-Err.ensures.finds))

pub new-session-requires : goal.new-session-requires
new-session-requires g c = ∣ record {
  setup = setup_of c.args.device.now c.args.policy.now c.args.slots c.in-Ok-open.engine;
  past = [];
  stands = c.in-Ok-open.ensures.stands (setup_of c.args.device.now c.args.policy.now c.args.slots c.in-Ok-open.engine) (is_opened c.args.device.now c.args.policy.now c.args.slots c.in-Ok-open.engine);
  none = λ ticket. refl;
} ∣₁

pub returns-clause-since_call : goal.returns-clause-since_call
returns-clause-since_call g c =
    let setup : Setup = setup_of c.args.device.now c.args.policy.now c.args.slots c.in-Ok-open.engine in
    let opens = is_opened c.args.device.now c.args.policy.now c.args.slots c.in-Ok-open.engine in
    let disk = c.open.new.disk in
    let leaves : IsOpenedFrom g.D.Disk c.args.handed.disk.now disk = opened_from g.D.Disk c.args.handed.disk.now disk c.in-Ok-open.ensures.brought c.in-Ok-open.ensures.goes in
    Opened disk (record {
      setup = setup;
      is = record { device_is = refl; policy_is = refl; slots_are = refl };
      read = record {
        stands = opened_images g.D.Disk c.args.device.now c.args.policy.now c.args.slots c.in-Ok-open.engine disk (c.in-Ok-open.ensures.holds setup opens);
        finds = c.in-Ok-open.ensures.finds;
        leaves = leaves;
      };
      ends = c.serve_script-status.ensures.ends setup c.args.handed.disk.now
          (session_stands g.D.Disk setup c.in-Ok-open.engine c.new-session.result disk c.new-session.ensures.engine (c.in-Ok-open.ensures.stands setup opens) (c.in-Ok-open.ensures.holds setup opens) (c.new-session.ensures.jobs setup)) leaves;
    })

pub returns-clause-since_opened : goal.returns-clause-since_opened
returns-clause-since_opened g c =
    let setup : Setup = setup_of c.args.device.now c.args.policy.now c.args.slots c.in-Ok-open.engine in
    let opens = is_opened c.args.device.now c.args.policy.now c.args.slots c.in-Ok-open.engine in
    let disk = c.open.new.disk in
    let leaves : IsOpenedFrom g.D.Disk c.args.handed.disk.now disk = opened_from g.D.Disk c.args.handed.disk.now disk c.in-Ok-open.ensures.brought c.in-Ok-open.ensures.goes in
    Opened disk (record {
      setup = setup;
      is = record { device_is = refl; policy_is = refl; slots_are = refl };
      read = record {
        stands = opened_images g.D.Disk c.args.device.now c.args.policy.now c.args.slots c.in-Ok-open.engine disk (c.in-Ok-open.ensures.holds setup opens);
        finds = c.in-Ok-open.ensures.finds;
        leaves = leaves;
      };
      ends = c.serve_script-status.ensures.ends setup disk
          (session_stands g.D.Disk setup c.in-Ok-open.engine c.new-session.result disk c.new-session.ensures.engine (c.in-Ok-open.ensures.stands setup opens) (c.in-Ok-open.ensures.holds setup opens) (c.new-session.ensures.jobs setup)) (opened_none g.D.Disk disk);
    })
