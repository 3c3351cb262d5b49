-- Images that a crash may leave, and some that it may not, after a few calls, the newest first. Bytes are letters.
use Rattle.std.specs.Prelude.{ℕ, List, [], ◌∷◌}
use Rattle.std.specs.List.{AllByRecursion}
use Rattle.disk_model.specs.DiskCalls.{DiskCall, Wrote, Synced}
use Rattle.disk_model.specs.CrashImages.{IsImage}

-- five bytes, synced: abcde. A write that failed leaves these calls.
abbrev pub five : List DiskCall
five = Synced ∷ Wrote 0 (97 ∷ 98 ∷ 99 ∷ 100 ∷ 101 ∷ []) ∷ []

-- three bytes over them: XYZ at 1. A sync that failed leaves these calls.
abbrev pub over : List DiskCall
over = Wrote 1 (88 ∷ 89 ∷ 90 ∷ []) ∷ five

-- two bytes past the end: fg at 7
abbrev pub past : List DiskCall
past = Wrote 7 (102 ∷ 103 ∷ []) ∷ five

-- both, with no sync between
abbrev pub two : List DiskCall
two = Wrote 7 (102 ∷ 103 ∷ []) ∷ over

-- both, synced
abbrev pub synced : List DiskCall
synced = Synced ∷ two

abbrev pub AreImages : List DiskCall → List (List ℕ) → Type 0
AreImages calls images = AllByRecursion (λ image. IsImage calls image) images

abbrev pub AreNoImages : List DiskCall → List (List ℕ) → Type 0
AreNoImages calls images = AllByRecursion (λ image. IsImage calls image → ⊥) images

-- abcde; abcd, abcdf, aXYZe
abbrev pub of_five : List (List ℕ)
of_five = (97 ∷ 98 ∷ 99 ∷ 100 ∷ 101 ∷ []) ∷ []

abbrev pub not_of_five : List (List ℕ)
not_of_five = (97 ∷ 98 ∷ 99 ∷ 100 ∷ []) ∷ (97 ∷ 98 ∷ 99 ∷ 100 ∷ 102 ∷ []) ∷ (97 ∷ 88 ∷ 89 ∷ 90 ∷ 101 ∷ []) ∷ []

-- abcde, aXYZe, a?Y?e; bXYZe, aXYZf, aXYZ, aXYZef
abbrev pub of_over : List (List ℕ)
of_over = (97 ∷ 98 ∷ 99 ∷ 100 ∷ 101 ∷ []) ∷ (97 ∷ 88 ∷ 89 ∷ 90 ∷ 101 ∷ []) ∷ (97 ∷ 63 ∷ 89 ∷ 63 ∷ 101 ∷ []) ∷ []

abbrev pub not_of_over : List (List ℕ)
not_of_over = (98 ∷ 88 ∷ 89 ∷ 90 ∷ 101 ∷ []) ∷ (97 ∷ 88 ∷ 89 ∷ 90 ∷ 102 ∷ []) ∷ (97 ∷ 88 ∷ 89 ∷ 90 ∷ []) ∷ (97 ∷ 88 ∷ 89 ∷ 90 ∷ 101 ∷ 102 ∷ []) ∷ []

-- abcde, abcde?, abcde??fg; abcdf, abcd, abcde????? (one byte too long)
abbrev pub of_past : List (List ℕ)
of_past = (97 ∷ 98 ∷ 99 ∷ 100 ∷ 101 ∷ []) ∷ (97 ∷ 98 ∷ 99 ∷ 100 ∷ 101 ∷ 63 ∷ []) ∷ (97 ∷ 98 ∷ 99 ∷ 100 ∷ 101 ∷ 63 ∷ 63 ∷ 102 ∷ 103 ∷ []) ∷ []

abbrev pub not_of_past : List (List ℕ)
not_of_past = (97 ∷ 98 ∷ 99 ∷ 100 ∷ 102 ∷ []) ∷ (97 ∷ 98 ∷ 99 ∷ 100 ∷ []) ∷ (97 ∷ 98 ∷ 99 ∷ 100 ∷ 101 ∷ 63 ∷ 63 ∷ 63 ∷ 63 ∷ 63 ∷ []) ∷ []

-- aXYZe??fg, abcde; b???e, aXYZf, and one byte too long
abbrev pub of_two : List (List ℕ)
of_two = (97 ∷ 88 ∷ 89 ∷ 90 ∷ 101 ∷ 63 ∷ 63 ∷ 102 ∷ 103 ∷ []) ∷ (97 ∷ 98 ∷ 99 ∷ 100 ∷ 101 ∷ []) ∷ []

abbrev pub not_of_two : List (List ℕ)
not_of_two = (98 ∷ 63 ∷ 63 ∷ 63 ∷ 101 ∷ []) ∷ (97 ∷ 88 ∷ 89 ∷ 90 ∷ 102 ∷ []) ∷ (97 ∷ 88 ∷ 89 ∷ 90 ∷ 101 ∷ 63 ∷ 63 ∷ 63 ∷ 63 ∷ 63 ∷ []) ∷ []

-- aXYZe..fg with 00 between; the same with another byte between
abbrev pub of_synced : List (List ℕ)
of_synced = (97 ∷ 88 ∷ 89 ∷ 90 ∷ 101 ∷ 0 ∷ 0 ∷ 102 ∷ 103 ∷ []) ∷ []

abbrev pub not_of_synced : List (List ℕ)
not_of_synced = (97 ∷ 88 ∷ 89 ∷ 90 ∷ 101 ∷ 0 ∷ 63 ∷ 102 ∷ 103 ∷ []) ∷ (97 ∷ 98 ∷ 99 ∷ 100 ∷ 101 ∷ []) ∷ []
