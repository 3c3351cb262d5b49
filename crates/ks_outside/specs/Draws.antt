-- The bytes that an entropy gives. Bytes to come have no end: a function gives the byte at each place, the next at 0.
use Rattle.std.specs.Prelude.{◌≡◌, ℕ, zero, suc, ◌+◌, ◌%◌, List, [], ◌∷◌, Option, Some, None, Result, MatchResult, ⊤}

-- one byte, and the bytes to come after it
abbrev pub led_by : ℕ → (ℕ → ℕ) → ℕ → ℕ
led_by byte later zero = byte
led_by byte later (suc place) = later place

-- a list of bytes, and the bytes to come after them
abbrev pub followed : List ℕ → (ℕ → ℕ) → ℕ → ℕ
followed [] later = later
followed (byte ∷ bytes) later = led_by byte (followed bytes later)

-- the bytes to come, where they are told, began with these bytes and lost them
abbrev pub Draws : Option (ℕ → ℕ) → Option (ℕ → ℕ) → List ℕ → Type 0
Draws None now bytes = ⊤
Draws (Some coming) None bytes = ⊥
Draws (Some coming) (Some later) bytes = coming ≡ followed bytes later

-- a draw that answers Ok drew the bytes of `out`, and one that fails drew none
abbrev pub DrawGives : {T E : Type 0} → Option (ℕ → ℕ) → Option (ℕ → ℕ) → Result T E → List ℕ → Type 0
DrawGives before now result out = MatchResult result (λ _. Draws before now out) (λ _. Draws before now [])

-- the bytes that count up from `next`, with 00 after ff
abbrev pub counting_from : ℕ → ℕ → ℕ
counting_from next place = (next + place) % 256
