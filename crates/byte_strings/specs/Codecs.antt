-- What a codec is: what is read is spelled so, and what is spelled is read again.
use Rattle.std.specs.Prelude.{◌≡◌, ℕ, ◌<◌, List, ◌++◌, slice_index, Some}
use Rattle.byte_strings.specs.Readers.{Reader}

-- each is a byte
abbrev pub IsBytes : List ℕ → Type 0
IsBytes bytes = (i : ℕ) → slice_index bytes i < 256

-- this text was taken from the front of bytes, and what stands behind it is left
pub record Takes (bytes text rest : List ℕ) : Type 0 where
  pub parts : bytes ≡ text ++ rest
  pub rest_fits : IsBytes rest

-- how a field is read, how it is spelled, and what values it has
pub record IsCodec {A : Type 0} (read : Reader A) (spell : A → List ℕ) (Fits : A → Type 0) : Type 0 where
  pub takes : (bytes : List ℕ) (x : A) (rest : List ℕ) → IsBytes bytes → read bytes ≡ Some (x, rest) → Takes bytes (spell x) rest × Fits x
  pub again : (x : A) (rest : List ℕ) → Fits x → read (spell x ++ rest) ≡ Some (x, rest)

-- fields in a row, one way: what is read of them is so, for the text that was taken
pub record IsRead {X : Type 0} (read : Reader X) (IsSo : List ℕ → X → Type 0) : Type 0 where
  pub takes : (bytes : List ℕ) (x : X) (rest : List ℕ) → IsBytes bytes → read bytes ≡ Some (x, rest) → (text : List ℕ) × Takes bytes text rest × IsSo text x

-- and the other way: the text is read as this
pub record IsAgain {X : Type 0} (read : Reader X) (text : List ℕ) (x : X) : Type 0 where
  pub again : (rest : List ℕ) → read (text ++ rest) ≡ Some (x, rest)
