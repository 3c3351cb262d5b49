use Rattle.std.proofs.Common.{refl, rules, subst, sym}
use Rattle.connection_workers.specs.Intakes.{IsIntake}
use Rattle.connection_workers.specs.declared.intake.Intake.{Intake}
use Rattle.connection_workers.proofs.Intaking.{took, shut}
use Rattle.connection_workers.proofs.intake.Intake+B+B+L.take.Goals as goal

pub returns-in-Ok-Some-clause-goes_on : goal.returns-in-Ok-Some-clause-goes_on
returns-in-Ok-Some-clause-goes_on g c =
    let gives = rw c.in-Ok-Some.field-0-is at c.in-Ok-Some.ensures.gives in
    let ends = rw c.in-Ok-Some.field-0-is at c.in-Ok-Some.ensures.ends in
    let cause = rw c.in-Ok-Some.field-0-is at c.in-Ok-Some.ensures.cause in
    λ start is. subst (λ (i : Intake _ _). IsIntake g.B.Listener start i) (sym c.note.ensures.same)
    (took g.B.Listener start c.args.self.now _ is c.args.worker c.in-Ok-Some.link (search rules) refl refl refl c.note.ensures.arrives gives ends cause)

pub returns-in-Ok-None-clause-goes_on : goal.returns-in-Ok-None-clause-goes_on
returns-in-Ok-None-clause-goes_on g c =
    let gives = rw c.in-Ok-None.field-0-is at c.in-Ok-None.ensures.gives in
    let ends = rw c.in-Ok-None.field-0-is at c.in-Ok-None.ensures.ends in
    let cause = rw c.in-Ok-None.field-0-is at c.in-Ok-None.ensures.cause in
    λ start is. shut g.B.Listener start c.args.self.now _ is refl refl refl gives ends cause
