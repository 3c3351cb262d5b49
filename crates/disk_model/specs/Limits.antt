-- What no crash can do, said place by place: bytes that no write since the newest sync touched stay, and the length
-- stays within what was written.
use Rattle.std.specs.Prelude.{◌≡◌, ◌⊎◌, ℕ, ◌+◌, ◌<◌, ◌≤◌, max, List, [], ◌∷◌, length, get_or}
use Rattle.disk_model.specs.DiskCalls.{DiskCall, Wrote, Synced}
use Rattle.disk_model.specs.CrashImages.{content_of}

-- what the newest sync of these calls, the newest first, made last
abbrev pub made_last : List DiskCall → List ℕ
made_last [] = []
made_last (Wrote at piece ∷ earlier) = made_last earlier
made_last (Synced ∷ earlier) = content_of earlier

-- a write since the newest sync touched the place
abbrev pub IsPending : List DiskCall → ℕ → Type 0
IsPending [] place = ⊥
IsPending (Wrote at piece ∷ earlier) place = ((at ≤ place) × (place < at + length piece)) ⊎ IsPending earlier place
IsPending (Synced ∷ earlier) place = ⊥

-- how far the writes since the newest sync reach
abbrev pub reach : List DiskCall → ℕ
reach [] = 0
reach (Wrote at piece ∷ earlier) = max (reach earlier) (at + length piece)
reach (Synced ∷ earlier) = 0

pub record IsWithin (calls : List DiskCall) (image : List ℕ) : Type 0 where
  pub no_shorter : length (made_last calls) ≤ length image
  pub no_longer : length image ≤ max (length (made_last calls)) (reach calls)
  pub stays : (place : ℕ) → place < length (made_last calls) → (IsPending calls place → ⊥) → get_or image place 0 ≡ get_or (made_last calls) place 0
