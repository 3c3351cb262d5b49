-- The state, and what a round does to it (FIPS 197 sections 3.4, 5.1 and 5.3).
-- Byte i of a block stands in row i % 4 and column i / 4.
use Rattle.std.specs.Prelude.{ℕ, ◌+◌, ◌-◌, ◌*◌, ◌%◌, List, [], ◌∷◌, slice_index}
use Rattle.aes_core.specs.Field.{add, times, sub_byte, inv_sub_byte}

-- the byte in a row and a column of the state (3.4)
abbrev pub byte_at : List ℕ → ℕ → ℕ → ℕ
byte_at state row column = slice_index state (row + 4 * column)

-- the column of these bytes
abbrev pub column_of : (ℕ → ℕ) → List ℕ → List ℕ
column_of f rest = f 0 ∷ f 1 ∷ f 2 ∷ f 3 ∷ rest

-- the state whose byte in each row and column is this
unfoldable pub state_of : (ℕ → ℕ → ℕ) → List ℕ
state_of f = column_of (λ row. f row 0) (column_of (λ row. f row 1) (column_of (λ row. f row 2) (column_of (λ row. f row 3) [])))

-- SubBytes (5.1.1): the S-box of each byte
unfoldable pub sub_bytes : List ℕ → List ℕ
sub_bytes state = state_of (λ row column. sub_byte (byte_at state row column))

-- ShiftRows (5.1.2): each row turned left by its number
unfoldable pub shift_rows : List ℕ → List ℕ
shift_rows state = state_of (λ row column. byte_at state row ((column + row) % 4))

-- a byte of the product with the matrix of rows 2 3 1 1, turned (5.1.3)
unfoldable pub mixed : ℕ → ℕ → ℕ → ℕ → ℕ
mixed a b c d = add (add (add (times 2 a) (times 3 b)) c) d

-- MixColumns (5.1.3)
unfoldable pub mix_columns : List ℕ → List ℕ
mix_columns state = state_of (λ row column.
    mixed (byte_at state row column) (byte_at state ((row + 1) % 4) column) (byte_at state ((row + 2) % 4) column) (byte_at state ((row + 3) % 4) column))

-- AddRoundKey (5.1.4): each byte with the round key's
unfoldable pub add_round_key : List ℕ → List ℕ → List ℕ
add_round_key state key = state_of (λ row column. add (byte_at state row column) (byte_at key row column))

-- InvShiftRows (5.3.1): each row turned right by its number
unfoldable pub inv_shift_rows : List ℕ → List ℕ
inv_shift_rows state = state_of (λ row column. byte_at state row ((column + 4 - row) % 4))

-- InvSubBytes (5.3.2): the inverse S-box of each byte
unfoldable pub inv_sub_bytes : List ℕ → List ℕ
inv_sub_bytes state = state_of (λ row column. inv_sub_byte (byte_at state row column))

-- a byte of the product with the matrix of rows 14 11 13 9, turned (5.3.3)
unfoldable pub unmixed : ℕ → ℕ → ℕ → ℕ → ℕ
unmixed a b c d = add (add (add (times 14 a) (times 11 b)) (times 13 c)) (times 9 d)

-- InvMixColumns (5.3.3)
unfoldable pub inv_mix_columns : List ℕ → List ℕ
inv_mix_columns state = state_of (λ row column.
    unmixed (byte_at state row column) (byte_at state ((row + 1) % 4) column) (byte_at state ((row + 2) % 4) column) (byte_at state ((row + 3) % 4) column))
