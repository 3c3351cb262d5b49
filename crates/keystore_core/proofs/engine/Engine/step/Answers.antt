use Rattle.std.proofs.Common.{◌≡◌, [], ◌∷◌, length, refl, sym, ap, ◌∙◌, subst}
use Rattle.ks_outside.proofs.Goings.{goes_on}
use Rattle.tags.specs.declared.secrets.DeviceSecrets.{DeviceSecrets}
use Rattle.rule_model.specs.Entries.{History, after_settling, after_step}
use Rattle.rule_model.specs.Stored.{holding_of}
use Rattle.keystore_core.specs.declared.engine.Engine.{Engine}
use mathlib.Core.Logic.{∥∥₁_elim, ∥∥₁_map}
use Rattle.std.proofs.Math.Bool.{Bool-set}
use Rattle.keystore_core.proofs.Completing.{gives_answer, none_failed, none_rose}
use Rattle.keystore_core.proofs.Fitting.{step_fits}
use Rattle.keystore_core.proofs.OtherStore.{never_other}
use Rattle.keystore_core.proofs.Steps.{held_mid, held_not, is_at, may_not, may_step, stands_mid, stands_not, stands_on, stays_not, stays_on, store_moments, store_steps, surely_not, surely_steps}
use Rattle.journal_records.specs.LastingPart.{Lasting}
use Rattle.key_database.specs.Adding.{KeepsSurely, StepsSurely}
use Rattle.rule_model.specs.Kept.{kept}
use Rattle.keystore_core.specs.Engine.{areas_in}
use Rattle.keystore_core.proofs.SurelyKept.{known_kept}
use Rattle.tags.specs.declared.code.Code.TheVariants.{SystemError}
use Rattle.journal_records.specs.Holding.{known}
use Rattle.key_database.specs.Stands.{areas_of}
use Rattle.rule_model.specs.declared.entry.Entry.TheVariants.{Acted}
use Rattle.rule_model.specs.declared.reply.Reply.TheVariants.{Stopped}
use Rattle.keystore_core.proofs.engine.Engine.step.Goals as goal

pub returns-in-Err-clause-stands : goal.returns-in-Err-clause-stands
returns-in-Err-clause-stands g c = λ setup past stands done.
    rw c.not_settled.ensures.reply
    (stands_not setup past c.args.self.now c.settle_first.new.self c.args.event stands (c.in-Err.ensures.stands setup past stands.tables) c.not_settled.new.self
    (ap (λ (e : Engine). e.tables) c.not_settled.ensures.entries) (ap (λ (e : Engine). e.entries) c.not_settled.ensures.entries))

pub returns-in-Err-clause-follows : goal.returns-in-Err-clause-follows
returns-in-Err-clause-follows g c = λ setup past stands done.
    rw c.not_settled.ensures.reply (may_not setup past c.args.self.now c.settle_first.new.self c.args.event stands (c.in-Err.ensures.stands setup past stands.tables))

pub returns-in-Err-clause-stays : goal.returns-in-Err-clause-stays
returns-in-Err-clause-stays g c = λ setup past stands done.
    rw c.not_settled.ensures.reply (stays_not setup past c.args.self.now c.settle_first.new.self c.args.event stands (c.in-Err.ensures.stands setup past stands.tables))

pub returns-in-Err-clause-store : goal.returns-in-Err-clause-store
returns-in-Err-clause-store g c = λ setup past stands held.
    rw c.not_settled.ensures.reply
    (held_not setup past c.args.self.now c.settle_first.new.self c.args.event stands (c.in-Err.ensures.stands setup past stands.tables) g.D.Disk c.settle_first.new.disk c.not_settled.new.self
    (ap (λ (e : Engine). e.tables) c.not_settled.ensures.entries) (c.in-Err.ensures.holds (holding_of setup past) held))

pub answer-answered-requires-clause-at : goal.answer-answered-requires-clause-at
answer-answered-requires-clause-at g c = ∥∥₁_map c.requires.takes (λ t.
    rw c.entries_made.ensures
    (is_at t.setup t.past c.args.self.now c.settle_first.new.self c.args.event c.in-Ok.settled c.args.done t.stands (c.in-Ok.ensures.stands t.setup t.past t.stands.tables) t.back_is))

pub returns-clause-stands : goal.returns-clause-stands
returns-clause-stands g c = λ setup past stands done.
    let has = c.in-Ok.ensures.stands setup past stands.tables in
    stands_on setup past c.args.self.now c.settle_first.new.self c.args.event c.in-Ok.settled c.args.done stands has c.answer-answered.new.self c.answer-answered.result
    (c.answer-answered.ensures.answers setup (after_settling c.in-Ok.settled past) (rw c.entries_made.ensures (stands_mid setup past c.args.self.now c.settle_first.new.self c.args.event c.in-Ok.settled c.args.done stands has done)))
    _ refl (rw c.entries_made.ensures refl)

pub returns-clause-follows : goal.returns-clause-follows
returns-clause-follows g c = λ setup past stands done.
    let has = c.in-Ok.ensures.stands setup past stands.tables in
    may_step setup past c.args.self.now c.settle_first.new.self c.args.event c.in-Ok.settled c.args.done stands has c.answer-answered.new.self c.answer-answered.result
    (c.answer-answered.ensures.answers setup (after_settling c.in-Ok.settled past) (rw c.entries_made.ensures (stands_mid setup past c.args.self.now c.settle_first.new.self c.args.event c.in-Ok.settled c.args.done stands has done)))

pub returns-clause-job : goal.returns-clause-job
returns-clause-job g c = λ setup past stands done.
    let has = c.in-Ok.ensures.stands setup past stands.tables in
    (c.answer-answered.ensures.answers setup (after_settling c.in-Ok.settled past) (rw c.entries_made.ensures (stands_mid setup past c.args.self.now c.settle_first.new.self c.args.event c.in-Ok.settled c.args.done stands has done))).has_job

pub returns-clause-stays : goal.returns-clause-stays
returns-clause-stays g c = λ setup past stands done.
    let has = c.in-Ok.ensures.stands setup past stands.tables in
    stays_on setup past c.args.self.now c.settle_first.new.self c.args.event c.in-Ok.settled c.args.done stands has c.answer-answered.new.self c.answer-answered.result
    (c.answer-answered.ensures.answers setup (after_settling c.in-Ok.settled past) (rw c.entries_made.ensures (stands_mid setup past c.args.self.now c.settle_first.new.self c.args.event c.in-Ok.settled c.args.done stands has done)))

pub returns-clause-store : goal.returns-clause-store
returns-clause-store g c = λ setup past stands held.
    let has = c.in-Ok.ensures.stands setup past stands.tables in
    store_steps g.D.Disk setup past c.args.self.now.tables c.settle_first.new.self c.answer-answered.new.self c.args.disk.now c.settle_first.new.disk c.answer-answered.new.disk c.args.event c.in-Ok.settled c.answer-answered.result
    has c.in-Ok.ensures.ready c.in-Ok.ensures.holds c.answer-answered.ensures.store held

pub returns-clause-passes : goal.returns-clause-passes
returns-clause-passes g c = λ setup past stands held.
    let has = c.in-Ok.ensures.stands setup past stands.tables in
    store_moments g.D.Disk setup past c.args.self.now.tables c.settle_first.new.self c.answer-answered.new.self c.args.disk.now c.settle_first.new.disk c.answer-answered.new.disk c.args.event c.in-Ok.settled c.answer-answered.result
    has c.in-Ok.ensures.ready c.in-Ok.ensures.holds c.answer-answered.ensures.store held c.in-Ok.ensures.passes

pub returns-in-Err-clause-same : goal.returns-in-Err-clause-same
returns-in-Err-clause-same g c = λ setup past stands held told. rw c.not_settled.ensures.reply refl

pub returns-clause-same : goal.returns-clause-same
returns-clause-same g c = λ setup past stands held told. ∥∥₁_elim c.requires.takes (Bool-set _ _) (λ t.
    let has = c.in-Ok.ensures.stands t.setup t.past t.stands.tables in
    let after = c.answer-answered.ensures.answers t.setup (after_settling c.in-Ok.settled t.past) (rw c.entries_made.ensures (stands_mid t.setup t.past c.args.self.now c.settle_first.new.self c.args.event c.in-Ok.settled c.args.done t.stands has t.back_is)) in
    never_other t.setup (after_settling c.in-Ok.settled t.past) c.args.event c.answer-answered.result.drawn c.answer-answered.result.reply
    (λ restarts. c.answer-answered.ensures.same (holding_of setup (after_settling c.in-Ok.settled past))
    (held_mid g.D.Disk setup past c.args.self.now.tables c.settle_first.new.self c.answer-answered.new.self c.args.disk.now c.settle_first.new.disk c.answer-answered.new.disk c.args.event c.in-Ok.settled c.answer-answered.result
    (c.in-Ok.ensures.stands setup past stands.tables) c.in-Ok.ensures.ready c.in-Ok.ensures.holds c.answer-answered.ensures.store held)
    (c.in-Ok.ensures.goes.telling ∙ told) restarts)
    (after.follows has.ready))

pub returns-in-Err-clause-complete : goal.returns-in-Err-clause-complete
returns-in-Err-clause-complete g c = λ setup past stands done disk entropy. absurd (none_rose _ _ disk (c.in-Err.ensures.goes.cause.rises refl))

pub returns-clause-complete : goal.returns-clause-complete
returns-clause-complete g c = λ setup past stands done disk entropy.
    let has = c.in-Ok.ensures.stands setup past stands.tables in
    let may = may_step setup past c.args.self.now c.settle_first.new.self c.args.event c.in-Ok.settled c.args.done stands has c.answer-answered.new.self c.answer-answered.result
    (c.answer-answered.ensures.answers setup (after_settling c.in-Ok.settled past) (rw c.entries_made.ensures (stands_mid setup past c.args.self.now c.settle_first.new.self c.args.event c.in-Ok.settled c.args.done stands has done))) in
    gives_answer setup (after_settling c.in-Ok.settled past) c.args.event c.answer-answered.result.drawn c.answer-answered.result.reply may.follows
    (none_failed _ _ _ (record { same = disk.same ∙ sym (c.in-Ok.ensures.goes.cause.same refl); below = disk.below }) c.answer-answered.ensures.store.goes.cause)
    (none_failed _ _ _ entropy c.answer-answered.ensures.drew.faults)

pub returns-in-Err-clause-goes : goal.returns-in-Err-clause-goes
returns-in-Err-clause-goes g c = rw c.not_settled.ensures.reply c.in-Err.ensures.goes

pub returns-clause-goes : goal.returns-clause-goes
returns-clause-goes g c = goes_on g.D.Disk _ _ _ _ c.in-Ok.ensures.goes c.answer-answered.ensures.store.goes

pub returns-in-Err-clause-fits : goal.returns-in-Err-clause-fits
returns-in-Err-clause-fits g c = λ setup past out stands done room. rw c.not_settled.ensures.reply tt

pub returns-clause-fits : goal.returns-clause-fits
returns-clause-fits g c = λ setup past out stands done room.
    let has = c.in-Ok.ensures.stands setup past stands.tables in
    let may = may_step setup past c.args.self.now c.settle_first.new.self c.args.event c.in-Ok.settled c.args.done stands has c.answer-answered.new.self c.answer-answered.result
    (c.answer-answered.ensures.answers setup (after_settling c.in-Ok.settled past) (rw c.entries_made.ensures (stands_mid setup past c.args.self.now c.settle_first.new.self c.args.event c.in-Ok.settled c.args.done stands has done))) in
    let long : length c.args.self.now.tables.device.root ≡ 32 = c.root_is_whole.ensures in
    step_fits setup past c.in-Ok.settled c.args.event c.answer-answered.result.drawn c.answer-answered.result.reply out stands.legal stands.storable (sym (ap (λ (d : DeviceSecrets). length d.root) stands.tables.keys.device_is) ∙ long) room may

pub returns-in-Err-clause-surely : goal.returns-in-Err-clause-surely
returns-in-Err-clause-surely g c = λ setup past stands held keeps.
    let old = c.args.self.now in
    let new = c.not_settled.new.self in
    let later : History = Acted c.args.event [] (Stopped SystemError) ∷ past in
    rw c.not_settled.ensures.reply
    (subst (λ (part : Lasting). StepsSurely g.D.Disk (areas_in old) (areas_in new) c.args.disk.now c.settle_first.new.disk (kept setup past) part) (known_kept setup later)
    (subst (λ (part : Lasting). StepsSurely g.D.Disk (areas_in old) (areas_in new) c.args.disk.now c.settle_first.new.disk part (known (holding_of setup later))) (known_kept setup past)
    (surely_not setup past old c.settle_first.new.self c.args.event stands (c.in-Err.ensures.stands setup past stands.tables) g.D.Disk c.args.disk.now c.settle_first.new.disk new
    (ap (λ (e : Engine). e.tables) c.not_settled.ensures.entries)
    (c.in-Err.ensures.surely (holding_of setup past) held (subst (λ (part : Lasting). KeepsSurely g.D.Disk (areas_in old) c.args.disk.now part) (sym (known_kept setup past)) keeps)))))

pub returns-in-Err-clause-unfound : goal.returns-in-Err-clause-unfound
returns-in-Err-clause-unfound g c = λ setup past stands held keeps. rw c.not_settled.ensures.reply (λ e. cc)

pub returns-clause-surely : goal.returns-clause-surely
returns-clause-surely g c = λ setup past stands held keeps.
    let old = c.args.self.now in
    let has = c.in-Ok.ensures.stands setup past stands.tables in
    let later : History = after_step c.in-Ok.settled c.args.event c.answer-answered.result.drawn c.answer-answered.result.reply past in
    subst (λ (part : Lasting). StepsSurely g.D.Disk (areas_in old) (areas_of c.answer-answered.new.self.keys) c.args.disk.now c.answer-answered.new.disk (kept setup past) part) (known_kept setup later)
    (subst (λ (part : Lasting). StepsSurely g.D.Disk (areas_in old) (areas_of c.answer-answered.new.self.keys) c.args.disk.now c.answer-answered.new.disk part (known (holding_of setup later))) (known_kept setup past)
    (surely_steps g.D.Disk setup past old.tables c.settle_first.new.self c.answer-answered.new.self c.args.disk.now c.settle_first.new.disk c.answer-answered.new.disk c.args.event c.in-Ok.settled c.answer-answered.result
    has c.in-Ok.ensures.ready c.in-Ok.ensures.holds c.answer-answered.ensures.store held c.in-Ok.ensures.surely
    (subst (λ (part : Lasting). KeepsSurely g.D.Disk (areas_in old) c.args.disk.now part) (sym (known_kept setup past)) keeps)))

pub returns-clause-unfound : goal.returns-clause-unfound
returns-clause-unfound g c = λ setup past stands held keeps.
    c.in-Ok.ensures.unfound (holding_of setup past) held (subst (λ (part : Lasting). KeepsSurely g.D.Disk (areas_in c.args.self.now) c.args.disk.now part) (sym (known_kept setup past)) keeps)
