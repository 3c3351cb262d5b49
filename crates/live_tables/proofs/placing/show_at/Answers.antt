use Rattle.std.proofs.Common.{ap, ◌∙◌, option_map}
use Rattle.live_tables.specs.Operations.{shown_if}
use Rattle.live_tables.specs.Places.{entry_at}
use Rattle.live_tables.proofs.Groups.{shown_number}
use Rattle.live_tables.proofs.Places.{own_within, rewritten, unwritten}
use Rattle.live_tables.proofs.placing.show_at.Goals as goal

pub show_place-requires : goal.show_place-requires
show_place-requires c =
    own_within c.args.places.now.items c.args.index.now c.requires.order c.requires.placed c.args.number (entry_at c.args.number c.in-Some.place) (c.place_of.ensures ∙ ap (option_map (entry_at c.args.number)) c.in-Some.is)

pub returns-in-Some-clause-rewrites : goal.returns-in-Some-clause-rewrites
returns-in-Some-clause-rewrites c =
    rewritten c.args.places.now.items c.args.index.now c.requires.order c.requires.placed c.args.number (entry_at c.args.number c.in-Some.place) (c.place_of.ensures ∙ ap (option_map (entry_at c.args.number)) c.in-Some.is)
    (shown_if c.args.token.now) (shown_number c.args.token.now) c.show_place.new.places.items c.show_place.ensures.puts c.show_place.ensures.size

pub returns-in_default-clause-rewrites : goal.returns-in_default-clause-rewrites
returns-in_default-clause-rewrites c =
    unwritten c.args.places.now.items c.args.index.now c.requires.order c.requires.placed c.args.number (c.place_of.ensures ∙ ap (option_map (entry_at c.args.number)) c.in_default.is) (shown_if c.args.token.now)
