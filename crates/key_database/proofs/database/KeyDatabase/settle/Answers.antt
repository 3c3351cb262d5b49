use Rattle.std.proofs.Common.{refl, ap, ◌∙◌}
use Rattle.std.specs.Prelude.{unwrap_or}
use Rattle.journal_records.specs.Effects.{after}
use Rattle.key_database.specs.Stands.{lasting}
use Rattle.key_database.proofs.Applied.{holds_kept, holds_lost, holds_waiting, passes_held}
use Rattle.std.proofs.Common.{◌≡◌, ◌≤◌, sym, subst}
use Rattle.journal_records.specs.LastingPart.{Lasting}
use Rattle.journal_records.specs.Holding.{known}
use Rattle.key_database.specs.Adding.{StepsSurely}
use Rattle.key_database.specs.Stands.{areas_of}
use Rattle.key_database.proofs.Steps.{known_lost, lost_keeps, lost_place, never_found, reads_surely, settles_surely}
use Rattle.key_database.proofs.database.KeyDatabase.settle.Goals as goal

pub returns-in-Some-clause-holds : goal.returns-in-Some-clause-holds
returns-in-Some-clause-holds g c = λ before h.
    holds_kept g.D.Disk c.args.self.now _ c.args.disk.now c.settle.new.disk c.requires before h (λ turning. absurd (cc (c.in-Ok-Kept.ensures.lost turning, c.in-Ok-Kept.field-0-is)))
    (λ frame past it begun. rw c.in-Ok-Kept.field-0-is at c.in-Ok-Kept.ensures.settles frame past it begun)
    (λ change is. c.make.ensures ∙ ap (λ o. after (lasting c.args.self.now) (unwrap_or o change)) (c.in-Some.ensures.value ∙ is))

pub returns-in-Some-clause-passes : goal.returns-in-Some-clause-passes
returns-in-Some-clause-passes g c = λ before h. passes_held g.D.Disk c.args.self.now c.args.disk.now c.settle.new.disk before h c.settle.ensures.goes.passes

pub returns-in-Ok-Lost-clause-holds : goal.returns-in-Ok-Lost-clause-holds
returns-in-Ok-Lost-clause-holds g c = λ before h.
    holds_lost g.D.Disk c.args.self.now _ c.args.disk.now c.settle.new.disk c.requires before h (λ frame past it begun. rw c.in-Ok-Lost.field-0-is at c.in-Ok-Lost.ensures.settles frame past it begun)
    (λ frame past rows turning. c.in-Ok-Lost.ensures.turned frame past rows turning) refl

pub returns-in-Ok-Lost-clause-passes : goal.returns-in-Ok-Lost-clause-passes
returns-in-Ok-Lost-clause-passes g c = λ before h. passes_held g.D.Disk c.args.self.now c.args.disk.now c.settle.new.disk before h c.settle.ensures.goes.passes

pub returns-in-Err-clause-holds : goal.returns-in-Err-clause-holds
returns-in-Err-clause-holds g c = λ before h.
    holds_waiting g.D.Disk c.args.self.now _ c.args.disk.now c.settle.new.disk c.requires before h (λ frame past it begun. c.in-Err.ensures.settles frame past it begun)
    (λ frame past rows turning. c.in-Err.ensures.turned frame past rows turning) refl refl

pub returns-in-Err-clause-passes : goal.returns-in-Err-clause-passes
returns-in-Err-clause-passes g c = λ before h. passes_held g.D.Disk c.args.self.now c.args.disk.now c.settle.new.disk before h c.settle.ensures.goes.passes

pub returns-in-Some-clause-unfound : goal.returns-in-Some-clause-unfound
returns-in-Some-clause-unfound g c = λ before h keeps. absurd (never_found g.D.Disk c.args.self.now c.args.disk.now before c.requires h keeps
    (λ turning. absurd (cc (c.in-Ok-Kept.ensures.lost turning, c.in-Ok-Kept.field-0-is)))
    (λ frame past kept it is fits holds told. absurd (cc (c.in-Ok-Kept.ensures.unfound frame past kept it is fits holds told, c.in-Ok-Kept.field-0-is))))

pub returns-in-Some-clause-surely : goal.returns-in-Some-clause-surely
returns-in-Some-clause-surely g c = λ before h keeps. absurd (never_found g.D.Disk c.args.self.now c.args.disk.now before c.requires h keeps
    (λ turning. absurd (cc (c.in-Ok-Kept.ensures.lost turning, c.in-Ok-Kept.field-0-is)))
    (λ frame past kept it is fits holds told. absurd (cc (c.in-Ok-Kept.ensures.unfound frame past kept it is fits holds told, c.in-Ok-Kept.field-0-is))))

pub returns-in-Ok-Lost-clause-surely : goal.returns-in-Ok-Lost-clause-surely
returns-in-Ok-Lost-clause-surely g c = λ before h keeps.
    let goes = c.settle.ensures.goes.goes in
    let kept = lost_keeps g.D.Disk c.args.self.now c.settle.new.self c.args.disk.now c.settle.new.disk before c.requires h (λ frame past it begun. rw c.in-Ok-Lost.field-0-is at c.in-Ok-Lost.ensures.settles frame past it begun)
    (λ frame past rows turning. c.in-Ok-Lost.ensures.turned frame past rows turning) in
    let steps = settles_surely g.D.Disk g.met.D.Disk.content_is_image (areas_of c.args.self.now) c.settle.new.self c.args.disk.now c.settle.new.disk (known before) keeps c.settle.ensures.goes.images
    (goes.telling ∙ keeps.told) (goes.sure keeps.holds.sure)
    (lost_place (areas_of c.args.self.now) c.settle.new.self c.settle.ensures.place c.settle.ensures.same (λ off. rw c.in-Ok-Lost.field-0-is at c.in-Ok-Lost.ensures.end off) c.settle.ensures.compactions)
    kept in
    subst (λ (p : Lasting). StepsSurely g.D.Disk (areas_of c.args.self.now) c.settle.new.self c.args.disk.now c.settle.new.disk (known before) p) (sym (known_lost before)) steps

pub returns-in-Err-clause-surely : goal.returns-in-Err-clause-surely
returns-in-Err-clause-surely g c = λ before h keeps.
    let goes = c.settle.ensures.goes.goes in
    reads_surely g.D.Disk g.met.D.Disk.content_is_image (areas_of c.args.self.now) c.settle.new.self c.args.disk.now c.settle.new.disk (known before) keeps c.settle.ensures.goes.images
    (goes.telling ∙ keeps.told) (goes.sure keeps.holds.sure) c.in-Err.ensures.kept
