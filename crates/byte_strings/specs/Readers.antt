-- Reading bytes from left to right. Numbers are big-endian.
use Rattle.std.specs.Prelude.{◌≡◌, ℕ, Bool, true, false, List, [], ◌∷◌, length, take, drop, Option, Some, None, Result, Ok, Err, nat_lt, ◌==◌, if◌then◌else◌}
use Rattle.std.specs.Option.{option_and_then}
use Rattle.byteorder.specs.Endian.{big_number}
use Rattle.byte_strings.specs.declared.read.Short.{Short}

-- what stands at the front, and the bytes behind it
abbrev pub Reader : Type 0 → Type 0
Reader X = List ℕ → Option (X × List ℕ)

-- what a call returned, seen by view, is what reading gives
abbrev pub Says : {X Y : Type 0} → (X → Y) → Result X Short → Option Y → Type 0
Says view (Ok x) read = read ≡ Some (view x)
Says view (Err fault) read = read ≡ None

-- ---- fields

abbrev pub byte_at : Reader ℕ
byte_at [] = None
byte_at (byte ∷ rest) = Some (byte, rest)

-- a number of n bytes
abbrev pub number_at : ℕ → Reader ℕ
number_at n bytes = if nat_lt (length bytes) n then None else Some (big_number n bytes, drop n bytes)

-- the first n bytes
abbrev pub bytes_at : ℕ → Reader (List ℕ)
bytes_at n bytes = if nat_lt (length bytes) n then None else Some (take n bytes, drop n bytes)

-- bytes behind their length of `width` bytes
unfoldable pub counted_at : ℕ → Reader (List ℕ)
counted_at width bytes = option_and_then (λ n. bytes_at n.0 n.1) (number_at width bytes)

-- counted bytes, as an option that has them
abbrev pub given_at : ℕ → Reader (Option (List ℕ))
given_at width bytes = option_and_then (λ x. Some (Some x.0, x.1)) (counted_at width bytes)

-- a byte 00, or a byte 01 and counted bytes
unfoldable pub optional_at : ℕ → Reader (Option (List ℕ))
optional_at width bytes =
    option_and_then (λ b. if b.0 == 0 then Some (None, b.1) else if b.0 == 1 then given_at width b.1 else None) (byte_at bytes)

-- a byte 00 or 01
unfoldable pub flag_at : Reader Bool
flag_at bytes =
    option_and_then (λ b. if b.0 == 0 then Some (false, b.1) else if b.0 == 1 then Some (true, b.1) else None) (byte_at bytes)

-- ---- fields in a row

-- one field, and then what it asks for
infixl 10 ◌>>=◌
abbrev pub ◌>>=◌ : {A B : Type 0} → Reader A → (A → Reader B) → Reader B
(first >>= more) bytes = option_and_then (λ x. more x.0 x.1) (first bytes)

-- what the fields make
abbrev pub done : {X : Type 0} → X → Reader X
done x bytes = Some (x, bytes)

-- the row of a number, in a table of rows by their numbers
abbrev pub row_of : {X : Type 0} → ℕ → List (ℕ × Reader X) → Reader X
row_of number [] bytes = None
row_of number (row ∷ rows) bytes = if number == row.0 then row.1 bytes else row_of number rows bytes

-- what was read, where nothing stands behind it
abbrev pub ended : {X : Type 0} → Option (X × List ℕ) → Option X
ended None = None
ended (Some x) = if length x.1 == 0 then Some x.0 else None
