-- The bytes that were taken from a source and not passed on yet.
use Rattle.std.specs.Prelude.{◌≡◌, ◌≢◌, ℕ, ◌<◌, List, length, slice_index}

-- the bytes that are held, and how many were taken in all
pub record ReaderView : Type 0 where
  pub bytes : List ℕ
  pub taken : ℕ

-- no LF stands below a place
abbrev pub HasNoFeedBelow : List ℕ → ℕ → Type 0
HasNoFeedBelow bytes n = (k : ℕ) → k < n → slice_index bytes k ≢ 10

-- the first LF stands at a place
pub record IsFirstFeed (bytes : List ℕ) (n : ℕ) : Type 0 where
  pub within : n < length bytes
  pub feed : slice_index bytes n ≡ 10
  pub free : HasNoFeedBelow bytes n
