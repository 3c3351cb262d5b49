-- Room for a copy.
use Rattle.std.specs.Prelude.{ℕ, length}
use Rattle.keystore_core.specs.declared.room.Room.{Room}

-- how many bytes the room is for
abbrev pub room_in : Room → ℕ
room_in room = length room.bytes.items
