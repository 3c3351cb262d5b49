-- What a read of a disk in memory gave after its calls, the newest first: what a crash may leave of one that never loses a write.
use Rattle.std.specs.Prelude.{◌≡◌, ◌⊎◌, ℕ, suc, ◌≤◌, List, [], ◌∷◌, length, reverse, Some}
use Rattle.std.proofs.Common.{inl, inr, arith}
use Rattle.std.proofs.lemmas.List.{length-reverse}
use Rattle.disk_model.specs.CrashImages.{content_of}
use Rattle.disk_model.specs.DiskCalls.{DiskCall}

-- what a read gave after t of these calls or more
abbrev pub WasContent : List DiskCall → ℕ → List ℕ → Type 0
WasContent [] t c = (t ≤ 0) × (c ≡ [])
WasContent (call ∷ earlier) t c = ((t ≤ suc (length earlier)) × (c ≡ content_of (call ∷ earlier))) ⊎ WasContent earlier t c

not_later : (calls : List DiskCall) (t : ℕ) (c : List ℕ) → WasContent calls t c → t ≤ length calls
not_later [] t c was = was.0
not_later (call ∷ earlier) t c (inl now) = now.0
not_later (call ∷ earlier) t c (inr was) = omega (arith, not_later earlier t c was)

counts : (calls : List DiskCall) (t : ℕ) (c : List ℕ) → t ≤ length calls → c ≡ content_of calls → WasContent calls t c
counts [] t c le now = (le, now)
counts (call ∷ earlier) t c le now = inl (le, now)

only : (calls : List DiskCall) (t : ℕ) (c : List ℕ) → length calls ≤ t → WasContent calls t c → c ≡ content_of calls
only [] t c le was = was.1
only (call ∷ earlier) t c le (inl now) = now.1
only (call ∷ earlier) t c le (inr was) = absurd (omega (arith, not_later earlier t c was))

pub told_content : (bytes c : List ℕ) → Some bytes ≡ Some c → c ≡ bytes
told_content bytes c told = cc

pub counts_now : (calls : List DiskCall) (t : ℕ) (c : List ℕ) → t ≤ length calls → c ≡ content_of (reverse calls) → WasContent (reverse calls) t c
counts_now calls t c le now = counts (reverse calls) t c (omega (arith, length-reverse calls)) now

pub only_now : (calls : List DiskCall) (c : List ℕ) → WasContent (reverse calls) (length calls) c → c ≡ content_of (reverse calls)
only_now calls c was = only (reverse calls) (length calls) c (omega (arith, length-reverse calls)) was
