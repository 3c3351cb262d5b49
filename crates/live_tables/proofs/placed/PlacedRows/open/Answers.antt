use Rattle.std.proofs.Common.{arith}
use Rattle.live_tables.proofs.Keeping.{client_less, client_room, grows_room, kept_opened, rows_opened, waiting_less, waiting_room}
use Rattle.live_tables.proofs.placed.PlacedRows.open.Goals as goal

pub put_in-requires-clause-room : goal.put_in-requires-clause-room
put_in-requires-clause-room c = client_room c.self.inside.places.items c.self.inside.index.items c.self.inside.free.items c.self.inside.clients c.self.inside.waiting c.self.inside.most c.self.inside.places.cap c.self.inside.index.cap c.self.inside.free.cap c.self.invariant (rw (← c.self.view_is) at c.requires.room)

pub put_in-requires-clause-last : goal.put_in-requires-clause-last
put_in-requires-clause-last c = λ own is. client_less c.self.inside.places.items c.self.inside.index.items c.self.inside.free.items c.self.inside.clients c.self.inside.waiting c.self.inside.most c.self.inside.places.cap c.self.inside.index.cap c.self.inside.free.cap c.self.invariant (rw (← c.self.view_is) at c.requires.room) c.args.row (rw (← c.self.view_is) at c.requires.last) own

pub put_in-requires-2-clause-room : goal.put_in-requires-2-clause-room
put_in-requires-2-clause-room c = waiting_room c.self.inside.places.items c.self.inside.index.items c.self.inside.free.items c.self.inside.clients c.self.inside.waiting c.self.inside.most c.self.inside.places.cap c.self.inside.index.cap c.self.inside.free.cap c.self.invariant (rw (← c.self.view_is) at c.requires.room)

pub put_in-requires-2-clause-last : goal.put_in-requires-2-clause-last
put_in-requires-2-clause-last c = λ own is. waiting_less c.self.inside.places.items c.self.inside.index.items c.self.inside.free.items c.self.inside.clients c.self.inside.waiting c.self.inside.most c.self.inside.places.cap c.self.inside.index.cap c.self.inside.free.cap c.self.invariant (rw (← c.self.view_is) at c.requires.room) c.args.row (rw (← c.self.view_is) at c.requires.last) own

pub invariant_of-self : goal.invariant_of-self
invariant_of-self c =
    rw c.put_entry.ensures.items
    (kept_opened c.self.inside.places.items c.self.inside.index.items c.self.inside.free.items c.self.inside.clients c.self.inside.waiting c.self.inside.most c.self.inside.places.cap c.self.inside.index.cap c.self.inside.free.cap c.self.invariant
    (rw (← c.self.view_is) at c.requires.room) c.args.row (rw (← c.self.view_is) at c.requires.last) c.lay-place.new.places.items c.lay-place.new.free.items c.lay-place.result c.lay-place.ensures.lays
    c.put_in.new.index c.put_in-2.new.index _ _ _ c.put_in.ensures c.put_in-2.ensures (record {
      few = c.self.invariant.memory.few;
      for_places = omega (arith, c.self.invariant.memory.for_places, c.lay-place.ensures.places_capacity);
      for_index = omega (arith, c.self.invariant.memory.for_index, c.put_entry.ensures.capacity);
      for_free = omega (arith, c.self.invariant.memory.for_free, c.lay-place.ensures.free_capacity);
      for_clients = omega (arith, c.self.invariant.memory.for_clients, c.put_in.ensures.room);
      for_waiting = omega (arith, c.self.invariant.memory.for_waiting, grows_room c.args.row.challenge c.args.row.number c.self.inside.waiting c.put_in-2.new.index c.put_in-2.ensures);
    }))

pub returns-clause-rows : goal.returns-clause-rows
returns-clause-rows c =
    rw c.put_entry.ensures.items
    (rw (← c.self.view_is)
    (rows_opened c.self.inside.places.items c.self.inside.index.items c.self.inside.free.items c.self.inside.clients c.self.inside.waiting c.self.inside.most c.self.inside.places.cap c.self.inside.index.cap c.self.inside.free.cap c.self.invariant
    (rw (← c.self.view_is) at c.requires.room) c.args.row (rw (← c.self.view_is) at c.requires.last) c.lay-place.new.places.items c.lay-place.new.free.items c.lay-place.result c.lay-place.ensures.lays))
