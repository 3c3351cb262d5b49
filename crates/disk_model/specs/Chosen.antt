-- One image of those that a crash may leave, chosen write by write.
use Rattle.std.specs.Prelude.{◌≡◌, ℕ, ◌≤◌, List, [], ◌∷◌, length, take, replicate, reverse, get_or, ⊤}
use Rattle.disk_model.specs.DiskCalls.{DiskCall, Wrote, Synced}
use Rattle.disk_model.specs.declared.image.Choice.{Choice}
use Rattle.disk_model.specs.declared.image.Choice.TheVariants.{New, Old, Filled}
use Rattle.disk_model.specs.CrashImages.{overwritten, content_of}

-- what a written range holds
abbrev pub chosen : Choice → ℕ → List ℕ → List ℕ → List ℕ
chosen New at piece old = overwritten at piece old
chosen Old at piece old = old
chosen (Filled byte) at piece old = overwritten at (replicate (length piece) byte) old

-- the bytes after one more call
abbrev pub laid : Choice → DiskCall → List ℕ → List ℕ
laid choice (Wrote at piece) old = chosen choice at piece old
laid choice Synced old = old

-- the image after these calls, the newest first, with a choice for each call by its number from 0; where no choice
-- is given, the range holds what was written
abbrev pub image_of : List Choice → List DiskCall → List ℕ
image_of choices [] = []
image_of choices (Wrote at piece ∷ earlier) = chosen (get_or choices (length earlier) New) at piece (image_of choices earlier)
image_of choices (Synced ∷ earlier) = content_of earlier

-- nothing is pending after these calls, the newest first
abbrev pub IsSettled : List DiskCall → Type 0
IsSettled [] = ⊤
IsSettled (Wrote at piece ∷ earlier) = ⊥
IsSettled (Synced ∷ earlier) = ⊤

abbrev pub IsWrite : DiskCall → Type 0
IsWrite (Wrote at piece) = ⊤
IsWrite Synced = ⊥

-- The bytes after the first i calls: all is as written up to the newest sync, and from there on as chosen.
pub record IsReplayed (choices : List Choice) (calls : List DiskCall) (start i : ℕ) (bytes : List ℕ) : Type 0 where
  pub written : i ≤ start → bytes ≡ content_of (reverse (take i calls))
  pub as_chosen : start ≤ i → bytes ≡ image_of choices (reverse (take i calls))
