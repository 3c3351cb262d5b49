use Rattle.std.proofs.Common.{◌≡◌, Bool, true, false, subst, sym, refl, arith}
use Rattle.ks_outside.specs.Faults.{CountsFaults}
use Rattle.ks_outside.proofs.Shown.{counts_none}
use Rattle.keystore_run.specs.declared.words.Form.{Form}
use Rattle.keystore_run.specs.declared.words.Form.TheVariants.{Run, Soak}
use Rattle.keystore_run.specs.Ends.{outside}
use Rattle.keystore_run.specs.Runs.{Does}
use Rattle.keystore_run.proofs.Completing.{does_complete}
use Rattle.keystore_run.proofs.Openings.{fine, fresh_cause, runs_cause}
use Rattle.keystore_run.proofs.Soaking.{soak_disk, soak_source, soak_usage}
use Rattle.keystore_run.proofs.run.run_words.Goals as goal

pub returns-then-fresh-clause-does : goal.returns-then-fresh-clause-does
returns-then-fresh-clause-does g c = λ form said.
    let same : Run true c.in-Some-Run.slots c.in-Some-Run.written ≡ form = cc (said, c.in-Some-Run.ensures.form, c.in-Some-Run.field-0-is, c.if-fresh.true) in
    subst (λ (form : Form). Does g.S.Source g.K.Sink g.D.Disk g.N.Entropy c.args.device.now c.args.policy.now form
    (outside c.args.source.now c.args.sink.now c.args.disk.now c.args.entropy.now) (outside c.serve_fresh.new.handed.0 c.serve_fresh.new.handed.1.0 c.serve_fresh.new.handed.1.1.0 c.serve_fresh.new.handed.1.1.1.0) c.serve_fresh.result)
    same c.serve_fresh.ensures.runs

pub returns-else-fresh-clause-does : goal.returns-else-fresh-clause-does
returns-else-fresh-clause-does g c = λ form said.
    let same : Run false c.in-Some-Run.slots c.in-Some-Run.written ≡ form = cc (said, c.in-Some-Run.ensures.form, c.in-Some-Run.field-0-is, c.if-fresh.false) in
    subst (λ (form : Form). Does g.S.Source g.K.Sink g.D.Disk g.N.Entropy c.args.device.now c.args.policy.now form
    (outside c.args.source.now c.args.sink.now c.args.disk.now c.args.entropy.now) (outside c.serve_store.new.handed.0 c.serve_store.new.handed.1.0 c.serve_store.new.handed.1.1.0 c.serve_store.new.handed.1.1.1.0) c.serve_store.result)
    same c.serve_store.ensures.since_call

pub returns-then-fresh-clause-disk_faults : goal.returns-then-fresh-clause-disk_faults
returns-then-fresh-clause-disk_faults g c = fresh_cause g.S.Source g.K.Sink g.D.Disk g.N.Entropy _ _ _ _ c.serve_fresh.ensures.runs

pub returns-else-fresh-clause-disk_faults : goal.returns-else-fresh-clause-disk_faults
returns-else-fresh-clause-disk_faults g c = runs_cause g.S.Source g.K.Sink g.D.Disk g.N.Entropy _ (λ opened. c.args.disk.now) _ _ _ (λ setup opened read. refl) c.serve_store.ensures.since_call

pub returns-then-fresh-clause-complete : goal.returns-then-fresh-clause-complete
returns-then-fresh-clause-complete g c = λ fresh slots written start bytes said ready fine.
    does_complete g.S.Source g.K.Sink g.D.Disk g.N.Entropy c.args.device.now c.args.policy.now fresh slots written start bytes _ _ _
    (returns-then-fresh-clause-does g c (Run fresh slots written) said) ready fine

pub returns-else-fresh-clause-complete : goal.returns-else-fresh-clause-complete
returns-else-fresh-clause-complete g c = λ fresh slots written start bytes said ready fine.
    does_complete g.S.Source g.K.Sink g.D.Disk g.N.Entropy c.args.device.now c.args.policy.now fresh slots written start bytes _ _ _
    (returns-else-fresh-clause-does g c (Run fresh slots written) said) ready fine

pub returns-in-Some-Soak-clause-usage : goal.returns-in-Some-Soak-clause-usage
returns-in-Some-Soak-clause-usage g c = (λ e. absurd (soak_usage g.K.Sink _ _ _ _ _ c.soak.ensures.soaks e), λ none. absurd (cc (none, c.in-Some-Soak.ensures.form)))

pub returns-in-Some-Soak-clause-untouched : goal.returns-in-Some-Soak-clause-untouched
returns-in-Some-Soak-clause-untouched g c = λ e. absurd (soak_usage g.K.Sink _ _ _ _ _ c.soak.ensures.soaks e)

pub returns-in-Some-Soak-clause-does : goal.returns-in-Some-Soak-clause-does
returns-in-Some-Soak-clause-does g c = λ form said.
    let same : Soak c.in-Some-Soak.seed c.in-Some-Soak.lines ≡ form = cc (said, c.in-Some-Soak.ensures.form, c.in-Some-Soak.field-0-is) in
    subst (λ (form : Form). Does g.S.Source g.K.Sink g.D.Disk g.N.Entropy c.args.device.now c.args.policy.now form
    (outside c.args.source.now c.args.sink.now c.args.disk.now c.args.entropy.now) (outside c.args.source.now c.soak.new.sink c.args.disk.now c.args.entropy.now) c.soak.result)
    same (record { source = refl; disk = refl; entropy = refl }, c.soak.ensures.soaks)

pub returns-in-Some-Soak-clause-source_faults : goal.returns-in-Some-Soak-clause-source_faults
returns-in-Some-Soak-clause-source_faults g c =
    let count = g.S.Source.fault_count c.args.source.now in
    subst (λ (told : Bool). CountsFaults count count told) (sym (soak_source g.K.Sink _ _ _ _ _ c.soak.ensures.soaks)) (counts_none count)

pub returns-in-Some-Soak-clause-disk_faults : goal.returns-in-Some-Soak-clause-disk_faults
returns-in-Some-Soak-clause-disk_faults g c = fine _ (soak_disk g.K.Sink _ _ _ _ _ c.soak.ensures.soaks) (omega arith)
