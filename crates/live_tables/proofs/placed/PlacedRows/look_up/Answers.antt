use Rattle.std.proofs.Common.{None, arith, ap, sym, ◌∙◌, option_map}
use Rattle.std.proofs.lemmas.List.{get_or_default}
use Rattle.live_tables.specs.Places.{entry_at}
use Rattle.live_tables.proofs.Places.{absent, found, own_cell, own_within}
use Rattle.live_tables.proofs.placed.PlacedRows.look_up.Goals as goal

pub index-requires : goal.index-requires
index-requires c =
    omega (
      arith,
      own_within c.self.inside.places.items c.self.inside.index.items c.self.invariant.linked.order c.self.invariant.linked.placed c.args.number (entry_at c.args.number c.in-Some.place)
          (rw c.deref.ensures.value at c.place_of.ensures ∙ ap (option_map (entry_at c.args.number)) c.in-Some.is),
    )

pub returns-in_default : goal.returns-in_default
returns-in_default c =
    rw (← c.self.view_is)
    (absent c.self.inside.places.items c.self.inside.index.items c.self.invariant.linked.order c.self.invariant.linked.placed c.args.number
    (rw c.deref.ensures.value at c.place_of.ensures ∙ ap (option_map (entry_at c.args.number)) c.in_default.is))

pub returns : goal.returns
returns c =
    let entry = entry_at c.args.number c.in-Some.place in
    let is = rw c.deref.ensures.value at c.place_of.ensures ∙ ap (option_map (entry_at c.args.number)) c.in-Some.is in
    let within = own_within c.self.inside.places.items c.self.inside.index.items c.self.invariant.linked.order c.self.invariant.linked.placed c.args.number entry is in
    rw (← c.self.view_is)
    (c.as_ref-row.ensures.value ∙ c.index.ensures
    ∙ get_or_default c.self.inside.places.items c.in-Some.place c.index.result.now None within
    ∙ own_cell c.self.inside.places.items c.self.inside.index.items c.self.invariant.linked.order c.self.invariant.linked.placed c.args.number entry is
    ∙ sym (found c.self.inside.places.items c.self.inside.index.items c.self.invariant.linked.order c.self.invariant.linked.placed c.args.number entry is))
