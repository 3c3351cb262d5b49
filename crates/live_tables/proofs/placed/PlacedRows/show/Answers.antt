use Rattle.std.proofs.Common.{map, arith}
use Rattle.group_index.specs.Grouped.{number_of}
use Rattle.live_tables.proofs.Keeping.{kept_shown, rows_shown}
use Rattle.live_tables.proofs.placed.PlacedRows.show.Goals as goal

pub invariant_of-self : goal.invariant_of-self
invariant_of-self c =
    kept_shown c.self.inside.places.items c.self.inside.index.items c.self.inside.free.items c.self.inside.clients c.self.inside.waiting c.self.inside.most c.self.inside.places.cap c.self.inside.index.cap c.self.inside.free.cap c.self.invariant
    c.args.token.now (map number_of c.of-waiting.result.now) c.of-waiting.ensures c.show_rows.new.places.items (rw c.deref.ensures.value at c.show_rows.ensures.rows) (rw c.deref.ensures.value at c.show_rows.ensures.placed)
    c.show_rows.ensures.size c.show_rows.ensures.free _ (omega (arith, c.show_rows.ensures.capacity))

pub returns-clause-rows : goal.returns-clause-rows
returns-clause-rows c =
    rw (← c.self.view_is)
    (rows_shown c.self.inside.places.items c.self.inside.index.items c.self.inside.free.items c.self.inside.clients c.self.inside.waiting c.self.inside.most c.self.inside.places.cap c.self.inside.index.cap c.self.inside.free.cap c.self.invariant
    c.args.token.now (map number_of c.of-waiting.result.now) c.of-waiting.ensures c.show_rows.new.places.items (rw c.deref.ensures.value at c.show_rows.ensures.rows) (rw c.deref.ensures.value at c.show_rows.ensures.placed)
    c.show_rows.ensures.size c.show_rows.ensures.free)
