-- What a contract sees of the bytes that an opening holds back.
use Rattle.std.specs.Prelude.{ℕ, List}

-- the bytes, and how many they can be
pub record HeldBytes : Type 0 where
  pub bytes : List ℕ
  pub most : ℕ
