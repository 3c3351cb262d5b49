use Rattle.std.proofs.Common.{sym, ap, ◌∙◌, arith}
use Rattle.operation_slots.specs.declared.cells.Cell.{Cell}
use Rattle.operation_slots.proofs.Reading.{cell_read}
use Rattle.operation_slots.proofs.Laying.{is_free, free_within, lays}
use Rattle.operation_slots.proofs.cells.lay.Goals as goal

pub index_mut-requires : goal.index_mut-requires
index_mut-requires g c = omega (arith, free_within c.args.cells.now.items c.args.free.now.items c.pop.new.self.items c.in-Some.place c.in-Some.ensures.items c.requires.places)

pub returns-in-None-clause-lays : goal.returns-in-None-clause-lays
returns-in-None-clause-lays g c = rw c.replace-left.ensures.after (lays c.args.cells.now.items c.args.free.now.items c.pop.new.self.items c.in-Some.place c.in-Some.ensures.items c.requires.places c.args.cell c.requires.spare)

pub unreachable-requires : goal.unreachable-requires
unreachable-requires g c =
    let read = cell_read c.args.cells.now.items c.in-Some.place c.index_mut.result.now (free_within c.args.cells.now.items c.args.free.now.items c.pop.new.self.items c.in-Some.place c.in-Some.ensures.items c.requires.places) c.index_mut.ensures.value in
    let left = ap (λ (k : Cell _). k.operation.value) (c.replace-left.ensures.value ∙ read) in
    let no = sym c.in-Some-into_value.is ∙ c.into_value.ensures ∙ left ∙ c.requires.spare c.in-Some.place (is_free c.args.cells.now.items c.args.free.now.items c.pop.new.self.items c.in-Some.place c.in-Some.ensures.items c.requires.places) in
    cc
