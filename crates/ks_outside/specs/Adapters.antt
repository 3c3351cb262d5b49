-- What an adapter makes of the answer of a real object's one call. An answer is None where the object failed, and else how many bytes it gave or took.
use Rattle.std.specs.Prelude.{◌≡◌, ℕ, List, Bool, false, ◌&&◌, not, nat_eq, length, take, ◌<◌, if◌then◌else◌, Option, Some, None}
use Rattle.std.specs.Io.KnownBytes.{Keeps, Consumes, Appends, IsAtEnd}

-- the known bytes left lost what came to the front of `out`, which is nothing only at their end; a call that failed left them
abbrev pub AskConsumes : Option (List ℕ) → Option (List ℕ) → Option ℕ → List ℕ → Type 0
AskConsumes before now None out = Keeps before now
AskConsumes before now (Some count) out = Consumes before now (take count out) × (count ≡ 0 → 0 < length out → IsAtEnd now)

-- the known bytes held got what was taken of the front of the piece; a call that failed left them
abbrev pub GiveAppends : Option (List ℕ) → Option (List ℕ) → Option ℕ → List ℕ → Type 0
GiveAppends before now None piece = Keeps before now
GiveAppends before now (Some count) piece = Appends before now (take count piece)

-- what was taken of a piece of so many bytes; a call that takes nothing of a piece failed
abbrev pub taken_of : ℕ → Option ℕ → Option ℕ
taken_of size None = None
taken_of size (Some count) = if nat_eq count 0 && not (nat_eq size 0) then None else Some count

-- whether so many bytes were filled
abbrev pub fills : ℕ → Option ℕ → Bool
fills size None = false
fills size (Some count) = nat_eq count size

-- a draw over a device: one that was never opened fails, and else its one call is made, which is to fill `out`
abbrev pub DrawsFrom : {R : Type 0} → (R → R → List ℕ → Option ℕ → Type 0) → Option R → Option R → List ℕ → Bool → Type 0
DrawsFrom answered None new out ok = ok ≡ false
DrawsFrom answered (Some old) None out ok = ⊥
DrawsFrom answered (Some old) (Some new) out ok = (answer : Option ℕ) × answered old new out answer × (ok ≡ fills (length out) answer)
