-- What of a compaction waits to be settled.
use Rattle.std.specs.Prelude.{Bool, true, false, Option, Some, None}
use Rattle.record_areas.specs.declared.area.Area.{Area}
use Rattle.journal_compact.specs.declared.areas.Turn.{Turn}
use Rattle.journal_compact.specs.declared.areas.Turn.TheVariants.{Idle, Copying, Selecting}

-- whether anything does
abbrev pub is_turn : Turn → Bool
is_turn Idle = false
is_turn Copying = true
is_turn (Selecting next) = true

-- the area that may be selected, where the selector was begun
abbrev pub next_of : Turn → Option Area
next_of Idle = None
next_of Copying = None
next_of (Selecting next) = Some next
