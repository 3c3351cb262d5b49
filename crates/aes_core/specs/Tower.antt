-- The S-box by tables of sixteen entries, in a field of pairs of half bytes (Hamburg, CHES 2009).
use Rattle.std.specs.Prelude.{ℕ, ◌/◌, Bool, ◌||◌, if◌then◌else◌, nat_le, nat_lt, List, [], ◌∷◌, slice_index, bit_xor}
use Rattle.std.specs.Int.RustNames.{bit_and}
use Rattle.std.specs.List.{list_all}

-- a place in a table of sixteen, or none
abbrev pub is_place : ℕ → Bool
is_place i = nat_le 128 i || nat_lt i 16

abbrev pub are_places : List ℕ → Bool
are_places places = list_all is_place places

-- the entry at a place, and 0 where it is none
abbrev pub look : List ℕ → ℕ → ℕ
look table i = if nat_le 128 i then 0 else slice_index table i

-- the halves of a byte
abbrev pub low : ℕ → ℕ
low b = bit_and b 15

abbrev pub high : ℕ → ℕ
high b = b / 16

-- taking the low half of a byte to the tower
abbrev pub to_low : List ℕ
to_low = 0 ∷ 112 ∷ 42 ∷ 90 ∷ 152 ∷ 232 ∷ 178 ∷ 194 ∷ 8 ∷ 120 ∷ 34 ∷ 82 ∷ 144 ∷ 224 ∷ 186 ∷ 202 ∷ []

-- taking its high half there
abbrev pub to_high : List ℕ
to_high = 0 ∷ 77 ∷ 124 ∷ 49 ∷ 125 ∷ 48 ∷ 1 ∷ 76 ∷ 129 ∷ 204 ∷ 253 ∷ 176 ∷ 252 ∷ 177 ∷ 128 ∷ 205 ∷ []

-- the inverses of half bytes; that of 0 is 128, which stands for none
abbrev pub inverses : List ℕ
inverses = 128 ∷ 1 ∷ 8 ∷ 13 ∷ 15 ∷ 6 ∷ 5 ∷ 14 ∷ 2 ∷ 12 ∷ 11 ∷ 10 ∷ 9 ∷ 3 ∷ 7 ∷ 4 ∷ []

-- the ratios of a constant to half bytes
abbrev pub ratios : List ℕ
ratios = 128 ∷ 7 ∷ 11 ∷ 15 ∷ 6 ∷ 10 ∷ 4 ∷ 1 ∷ 9 ∷ 8 ∷ 5 ∷ 2 ∷ 12 ∷ 14 ∷ 13 ∷ 3 ∷ []

-- the S-box within the tower, without its constant, from the first place
abbrev pub once_first : List ℕ
once_first = 0 ∷ 62 ∷ 80 ∷ 203 ∷ 143 ∷ 225 ∷ 155 ∷ 177 ∷ 68 ∷ 245 ∷ 42 ∷ 20 ∷ 110 ∷ 122 ∷ 223 ∷ 165 ∷ []

-- the same from the second place
abbrev pub once_second : List ℕ
once_second = 0 ∷ 35 ∷ 226 ∷ 250 ∷ 21 ∷ 212 ∷ 24 ∷ 54 ∷ 239 ∷ 217 ∷ 46 ∷ 13 ∷ 193 ∷ 204 ∷ 247 ∷ 59 ∷ []

-- the product of x with the S-box, from the first place
abbrev pub twice_first : List ℕ
twice_first = 0 ∷ 36 ∷ 113 ∷ 11 ∷ 198 ∷ 147 ∷ 122 ∷ 226 ∷ 205 ∷ 47 ∷ 152 ∷ 188 ∷ 85 ∷ 233 ∷ 183 ∷ 94 ∷ []

-- the same from the second place
abbrev pub twice_second : List ℕ
twice_second = 0 ∷ 41 ∷ 225 ∷ 10 ∷ 64 ∷ 136 ∷ 235 ∷ 105 ∷ 74 ∷ 35 ∷ 130 ∷ 171 ∷ 200 ∷ 99 ∷ 161 ∷ 194 ∷ []

-- the S-box out of the tower, without its constant, from the first place
abbrev pub out_first : List ℕ
out_first = 0 ∷ 199 ∷ 189 ∷ 111 ∷ 23 ∷ 109 ∷ 210 ∷ 208 ∷ 120 ∷ 168 ∷ 2 ∷ 197 ∷ 122 ∷ 191 ∷ 170 ∷ 21 ∷ []

-- the same from the second place
abbrev pub out_second : List ℕ
out_second = 0 ∷ 106 ∷ 187 ∷ 95 ∷ 165 ∷ 116 ∷ 228 ∷ 207 ∷ 250 ∷ 53 ∷ 43 ∷ 65 ∷ 209 ∷ 144 ∷ 30 ∷ 142 ∷ []

-- a byte in the tower
unfoldable pub to_tower : ℕ → ℕ
to_tower b = bit_xor (look to_low (low b)) (look to_high (high b))

-- the inverses of both halves' sums with a ratio
abbrev pub over_high : ℕ → ℕ
over_high y = bit_xor (look inverses (high y)) (look ratios (low y))

abbrev pub over_both : ℕ → ℕ
over_both y = bit_xor (look inverses (bit_xor (high y) (low y))) (look ratios (low y))

-- the two places that the inverse is read from
unfoldable pub first : ℕ → ℕ
first y = bit_xor (look inverses (over_high y)) (bit_xor (high y) (low y))

unfoldable pub second : ℕ → ℕ
second y = bit_xor (look inverses (over_both y)) (high y)

-- the S-box without its constant, in the tower; its product with x, in the tower; and the S-box out of the tower
unfoldable pub once : ℕ → ℕ
once y = bit_xor (look once_first (first y)) (look once_second (second y))

unfoldable pub twice : ℕ → ℕ
twice y = bit_xor (look twice_first (first y)) (look twice_second (second y))

unfoldable pub out : ℕ → ℕ
out y = bit_xor (look out_first (first y)) (look out_second (second y))
