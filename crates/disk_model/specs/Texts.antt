-- Calls whose pieces stand in one text.
use Rattle.std.specs.Prelude.{ℕ, ◌+◌, ◌≤◌, List, take, drop, ⊤}
use Rattle.disk_model.specs.declared.calls.KeptCall.{KeptCall}
use Rattle.disk_model.specs.declared.calls.KeptCall.TheVariants as kinds
use Rattle.disk_model.specs.DiskCalls.{DiskCall, Wrote, Synced}

-- the call, with its piece out of the text
abbrev pub call_in : List ℕ → KeptCall → DiskCall
call_in text (kinds.Wrote at start size) = Wrote at (take size (drop start text))
call_in text kinds.Synced = Synced

-- the piece stands in the first bytes of the text
abbrev pub IsInFirst : ℕ → KeptCall → Type 0
IsInFirst bound (kinds.Wrote at start size) = start + size ≤ bound
IsInFirst bound kinds.Synced = ⊤
