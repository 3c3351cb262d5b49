use Rattle.std.proofs.Common.{◌≡◌, ◌∙◌, Bool, refl, sym, ap, subst}
use Rattle.ks_outside.specs.Faults.{CountsFaults}
use Rattle.ks_outside.proofs.Shown.{counts_none}
use Rattle.keystore_server.specs.declared.words.ServeForm.{ServeForm}
use Rattle.keystore_server.specs.Ends.{IsCompleted, Opened, Refused, Serves, is_listen_fault}
use Rattle.keystore_server.proofs.Endings.{refused_completed, refused_disk, refused_listens, refused_usage, serves_completed, serves_disk, serves_listened, serves_usage}
use Rattle.keystore_core.specs.Opening.{is_opened, opened_from, opened_images, setup_of}
use Rattle.keystore_server.proofs.service.serve_words.Goals as goal

pub returns-in-Ok-clause-serves : goal.returns-in-Ok-clause-serves
returns-in-Ok-clause-serves g c = λ form said.
    let same : c.in-Some.form ≡ form = cc (said, c.in-Some.ensures.form) in
    let setup = setup_of c.args.device.now c.args.policy.now 16 c.in-Ok.engine in
    subst (λ (f : ServeForm). Serves g.B.Listener g.B.L.Link g.D.Disk g.N.Entropy (g.C.Clock.shows c.args.clock.now) g.B.HangsUp.leaves c.args.device.now c.args.policy.now f c.args.listener c.args.disk c.args.entropy c.serve_opened.result) same
    (Opened c.open.new.disk setup (record { device_is = refl; policy_is = refl; slots_are = refl })
    (record { stands = opened_images g.D.Disk c.args.device.now c.args.policy.now 16 c.in-Ok.engine c.open.new.disk (c.in-Ok.ensures.holds setup (is_opened c.args.device.now c.args.policy.now 16 c.in-Ok.engine)); finds = c.in-Ok.ensures.finds; leaves = opened_from g.D.Disk c.args.disk c.open.new.disk c.in-Ok.ensures.brought c.in-Ok.ensures.goes })
    (c.serve_opened.ensures.serves setup (c.in-Ok.ensures.stands setup (is_opened c.args.device.now c.args.policy.now 16 c.in-Ok.engine))))

pub returns-in-Ok-clause-listen_faults : goal.returns-in-Ok-clause-listen_faults
returns-in-Ok-clause-listen_faults g c =
    let setup = setup_of c.args.device.now c.args.policy.now 16 c.in-Ok.engine in
    serves_listened g.B.Listener g.B.L.Link g.D.Disk g.N.Entropy (g.C.Clock.shows c.args.clock.now) g.B.HangsUp.leaves setup c.in-Some.form c.args.listener c.open.new.disk c.args.entropy c.serve_opened.result
    (c.serve_opened.ensures.serves setup (c.in-Ok.ensures.stands setup (is_opened c.args.device.now c.args.policy.now 16 c.in-Ok.engine)))

pub returns-in-Ok-clause-disk_faults : goal.returns-in-Ok-clause-disk_faults
returns-in-Ok-clause-disk_faults g c = λ e.
    let setup = setup_of c.args.device.now c.args.policy.now 16 c.in-Ok.engine in
    absurd (serves_disk g.B.Listener g.B.L.Link g.D.Disk g.N.Entropy (g.C.Clock.shows c.args.clock.now) g.B.HangsUp.leaves setup c.in-Some.form c.args.listener c.open.new.disk c.args.entropy c.serve_opened.result
    (c.serve_opened.ensures.serves setup (c.in-Ok.ensures.stands setup (is_opened c.args.device.now c.args.policy.now 16 c.in-Ok.engine))) e)

pub returns-in-Ok-clause-complete : goal.returns-in-Ok-clause-complete
returns-in-Ok-clause-complete g c = λ part stands told.
    let setup = setup_of c.args.device.now c.args.policy.now 16 c.in-Ok.engine in
    serves_completed g.B.Listener g.B.L.Link g.D.Disk g.N.Entropy (g.C.Clock.shows c.args.clock.now) g.B.HangsUp.leaves setup c.in-Some.form c.args.listener c.open.new.disk c.args.entropy c.serve_opened.result
    (c.serve_opened.ensures.serves setup (c.in-Ok.ensures.stands setup (is_opened c.args.device.now c.args.policy.now 16 c.in-Ok.engine)))

pub returns-in-Ok-clause-usage : goal.returns-in-Ok-clause-usage
returns-in-Ok-clause-usage g c =
    let setup = setup_of c.args.device.now c.args.policy.now 16 c.in-Ok.engine in (
      (λ e. absurd (serves_usage g.B.Listener g.B.L.Link g.D.Disk g.N.Entropy (g.C.Clock.shows c.args.clock.now) g.B.HangsUp.leaves setup c.in-Some.form c.args.listener c.open.new.disk c.args.entropy c.serve_opened.result
          (c.serve_opened.ensures.serves setup (c.in-Ok.ensures.stands setup (is_opened c.args.device.now c.args.policy.now 16 c.in-Ok.engine))) e)),
      (λ none. absurd (cc (none, c.in-Some.ensures.form))),
    )

pub returns-in-Ok-clause-untouched : goal.returns-in-Ok-clause-untouched
returns-in-Ok-clause-untouched g c = λ e.
    let setup = setup_of c.args.device.now c.args.policy.now 16 c.in-Ok.engine in
    absurd (serves_usage g.B.Listener g.B.L.Link g.D.Disk g.N.Entropy (g.C.Clock.shows c.args.clock.now) g.B.HangsUp.leaves setup c.in-Some.form c.args.listener c.open.new.disk c.args.entropy c.serve_opened.result
    (c.serve_opened.ensures.serves setup (c.in-Ok.ensures.stands setup (is_opened c.args.device.now c.args.policy.now 16 c.in-Ok.engine))) e)

-- the store was not opened
pub returns-in-Err-clause-serves : goal.returns-in-Err-clause-serves
returns-in-Err-clause-serves g c = λ form said.
    Refused c.in-Err.fault (record { goes = c.in-Err.ensures.goes; brought = c.in-Err.ensures.brought; refused = c.in-Err.ensures.refused; reads = c.in-Err.ensures.reads; finds = c.in-Err.ensures.finds })
    c.refusal.ensures (record { listener_is = refl; entropy_is = refl; book_is = refl })

pub returns-in-Err-clause-listen_faults : goal.returns-in-Err-clause-listen_faults
returns-in-Err-clause-listen_faults g c =
    let count = g.B.Listener.fault_count c.args.listener in
    subst (λ (told : Bool). CountsFaults count count told) (sym (ap is_listen_fault c.refusal.ensures ∙ refused_listens c.in-Err.fault)) (counts_none count)

pub returns-in-Err-clause-disk_faults : goal.returns-in-Err-clause-disk_faults
returns-in-Err-clause-disk_faults g c = λ e.
    refused_disk g.D.Disk c.args.disk c.open.new.disk c.in-Err.fault
    (record { goes = c.in-Err.ensures.goes; brought = c.in-Err.ensures.brought; refused = c.in-Err.ensures.refused; reads = c.in-Err.ensures.reads; finds = c.in-Err.ensures.finds }) (sym c.refusal.ensures ∙ e)

pub returns-in-Err-clause-complete : goal.returns-in-Err-clause-complete
returns-in-Err-clause-complete g c = λ part stands told.
    subst IsCompleted (sym c.refusal.ensures) (refused_completed g.D.Disk c.args.disk c.open.new.disk c.in-Err.fault
    (record { goes = c.in-Err.ensures.goes; brought = c.in-Err.ensures.brought; refused = c.in-Err.ensures.refused; reads = c.in-Err.ensures.reads; finds = c.in-Err.ensures.finds }) part stands told)

pub returns-in-Err-clause-usage : goal.returns-in-Err-clause-usage
returns-in-Err-clause-usage g c = (
  (λ e. absurd (refused_usage c.in-Err.fault (sym c.refusal.ensures ∙ e))),
  (λ none. absurd (cc (none, c.in-Some.ensures.form))),
)

pub returns-in-Err-clause-untouched : goal.returns-in-Err-clause-untouched
returns-in-Err-clause-untouched g c = λ e. absurd (refused_usage c.in-Err.fault (sym c.refusal.ensures ∙ e))
