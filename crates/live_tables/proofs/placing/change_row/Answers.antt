use Rattle.std.proofs.Common.{ap, ◌∙◌, option_map}
use Rattle.live_tables.specs.Operations.{changed}
use Rattle.live_tables.specs.Places.{entry_at}
use Rattle.live_tables.proofs.Keeping.{changed_number}
use Rattle.live_tables.proofs.Places.{own_within, rewritten, unwritten}
use Rattle.live_tables.proofs.placing.change_row.Goals as goal

pub change_place-requires : goal.change_place-requires
change_place-requires c =
    own_within c.args.places.now.items c.args.index.now c.requires.order c.requires.placed c.args.number (entry_at c.args.number c.in-Some.place) (c.place_told.ensures ∙ ap (option_map (entry_at c.args.number)) c.in-Some.is)

pub returns-in-Some-clause-rewrites : goal.returns-in-Some-clause-rewrites
returns-in-Some-clause-rewrites c =
    rewritten c.args.places.now.items c.args.index.now c.requires.order c.requires.placed c.args.number (entry_at c.args.number c.in-Some.place) (c.place_told.ensures ∙ ap (option_map (entry_at c.args.number)) c.in-Some.is)
    (changed c.args.change) (changed_number c.args.change) c.change_place.new.places.items c.change_place.ensures.puts c.change_place.ensures.size

pub returns-in_default-clause-rewrites : goal.returns-in_default-clause-rewrites
returns-in_default-clause-rewrites c =
    unwritten c.args.places.now.items c.args.index.now c.requires.order c.requires.placed c.args.number (c.place_told.ensures ∙ ap (option_map (entry_at c.args.number)) c.in_default.is) (changed c.args.change)
