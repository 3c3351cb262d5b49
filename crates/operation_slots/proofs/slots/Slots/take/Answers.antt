use Rattle.std.proofs.Common.{◌<◌, find, All, refl, ◌∙◌}
use Rattle.std.proofs.lemmas.Bool.{eq-eqb}
use Rattle.operation_slots.specs.Table.{has_number, made_busy}
use Rattle.operation_slots.specs.Boards.{operations_on}
use Rattle.operation_slots.proofs.Keeping.{later_change}
use Rattle.operation_slots.proofs.Lists.{found_change}
use Rattle.operation_slots.proofs.Seeing.{cases_of}
use Rattle.operation_slots.proofs.slots.Slots.take.Goals as goal

pub returns-clause-found : goal.returns-clause-found
returns-clause-found g c =
    λ number. rw (c.take.ensures.operations, ← c.self.view_is) (found_change c.args.op made_busy (λ o. refl) (operations_on c.self.inside.board) number)

pub returns-clause-later : goal.returns-clause-later
returns-clause-later g c =
    λ next h. let before : All (λ o. o.stamp < next) (operations_on c.self.inside.board) = rw (← c.self.view_is) at h in rw c.take.ensures.operations (later_change c.args.op made_busy (operations_on c.self.inside.board) next before (λ o k. k))

pub returns-clause-same : goal.returns-clause-same
returns-clause-same g c =
    λ none. rw (← c.self.view_is) (record { operations = c.take.ensures.same none; capacity = c.take.ensures.capacity })

pub returns-clause-cases : goal.returns-clause-cases
returns-clause-cases g c =
    rw (← c.self.view_is) (cases_of (find (has_number c.args.op) (operations_on c.self.inside.board)) _ c.take.result c.take.ensures.answer (rw c.take.ensures.operations (found_change c.args.op made_busy (λ o. refl) (operations_on c.self.inside.board) c.args.op ∙ rw (eq-eqb c.args.op c.args.op refl) refl)))
