-- Bytes as lines, each of which ends with an LF.
use Rattle.std.specs.Prelude.{◌≢◌, ℕ, ◌==◌, List, [], ◌∷◌, ◌++◌, if◌then◌else◌}

-- the bytes have no LF
abbrev pub IsFree : List ℕ → Type 0
IsFree [] = Unit {0}
IsFree (b ∷ bytes) = (b ≢ 10) × IsFree bytes

-- some bytes, without LF
pub record IsLine (text : List ℕ) : Type 0 where
  pub some : text ≢ []
  pub free : IsFree text

-- the lines with a byte before the first of them
abbrev pub begun_with : ℕ → List (List ℕ) → List (List ℕ)
begun_with b [] = (b ∷ []) ∷ []
begun_with b (line ∷ lines) = (b ∷ line) ∷ lines

-- the parts before each LF, and the rest where it is not empty
abbrev pub lines_of : List ℕ → List (List ℕ)
lines_of [] = []
lines_of (b ∷ bytes) = if b == 10 then [] ∷ lines_of bytes else begun_with b (lines_of bytes)

-- each line and its LF
abbrev pub ended : List (List ℕ) → List ℕ
ended [] = []
ended (line ∷ lines) = (line ++ 10 ∷ []) ++ ended lines
