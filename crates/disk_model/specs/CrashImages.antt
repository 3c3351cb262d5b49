-- What a disk in memory reads as, and what a crash may leave of it, from the list of its calls, the newest first.
use Rattle.std.specs.Prelude.{◌≡◌, ◌⊎◌, ℕ, suc, ◌+◌, ◌-◌, ◌≤◌, List, [], ◌∷◌, ◌++◌, length, take, drop, replicate}
use Rattle.ks_outside.specs.Ranges.{Torn}
use Rattle.disk_model.specs.DiskCalls.{DiskCall, Wrote, Synced}

-- bytes with a piece written over them; a gap before the piece reads 00
abbrev pub overwritten : ℕ → List ℕ → List ℕ → List ℕ
overwritten at piece old = take at old ++ (replicate (at - length old) 0 ++ (piece ++ drop (at + length piece) old))

-- what a read gives after these calls
abbrev pub content_of : List DiskCall → List ℕ
content_of [] = []
content_of (Wrote at piece ∷ earlier) = overwritten at piece (content_of earlier)
content_of (Synced ∷ earlier) = content_of earlier

-- what a crash after these calls may leave: after a sync what a read gives, and after a write what a crash before
-- it might have left, torn by the write
abbrev pub IsImage : List DiskCall → List ℕ → Type 0
IsImage [] c = c ≡ []
IsImage (Wrote at piece ∷ earlier) c = (b : List ℕ) × IsImage earlier b × Torn at (length piece) b c
IsImage (Synced ∷ earlier) c = c ≡ content_of earlier

-- what a crash might have left after t of these calls or more
abbrev pub WasImage : List DiskCall → ℕ → List ℕ → Type 0
WasImage [] t c = (t ≤ 0) × IsImage [] c
WasImage (call ∷ earlier) t c = ((t ≤ suc (length earlier)) × IsImage (call ∷ earlier) c) ⊎ WasImage earlier t c
