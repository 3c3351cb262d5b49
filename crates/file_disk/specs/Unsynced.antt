-- The range of a file that no sync has made last yet.
use Rattle.std.specs.Prelude.{ℕ, ◌+◌, ◌-◌, ◌^◌, min, max, Bool, true, false}
use Rattle.file_disk.specs.declared.unsynced.Unsynced.{Unsynced}

-- nothing was written, and no sync failed
abbrev pub none : Unsynced
none = record { from = 2 ^ 64 - 1; end = 0; is_lost = false }

-- with n bytes from a place on, which the range now covers
abbrev pub with : Unsynced → ℕ → ℕ → Unsynced
with range at n = record { from = min range.from at; end = max range.end (min (at + n) (2 ^ 64 - 1)); is_lost = range.is_lost }

-- behind a sync: nothing is left where it answered Ok, and else the same, which may be lost
abbrev pub after_sync : Unsynced → Bool → Unsynced
after_sync range true = none
after_sync range false = record { from = range.from; end = range.end; is_lost = true }
