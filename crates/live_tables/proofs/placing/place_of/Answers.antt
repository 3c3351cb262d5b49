use Rattle.std.proofs.Common.{Some, get_or, map, ◌∙◌}
use Rattle.slot_chain.proofs.Ordering.{found_at, found_in_gap, rising_differ}
use Rattle.live_tables.specs.declared.placed.RowPlace.{RowPlace}
use Rattle.live_tables.specs.Places.{place_number}
use Rattle.live_tables.proofs.placing.place_of.Goals as goal

pub returns-in-Err : goal.returns-in-Err
returns-in-Err c = found_in_gap place_number c.args.index.now c.args.number c.in-Err._gap c.in-Err.ensures.absent

pub returns-in-Ok : goal.returns-in-Ok
returns-in-Ok c =
    let none : RowPlace = record { number = 0; place = 0 } in
    found_at place_number c.args.index.now c.args.number c.in-Ok.at none (rising_differ (map place_number c.args.index.now) c.requires) c.in-Ok.ensures.found
    ∙ (λ i. Some (record { number = c.in-Ok.ensures.found.named none i; place = (get_or c.args.index.now c.in-Ok.at none).place }))
