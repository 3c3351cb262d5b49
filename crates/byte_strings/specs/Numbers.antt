-- Numbers and texts in the words of a command line.
use Rattle.std.specs.Prelude.{ℕ, ◌+◌, ◌-◌, ◌*◌, ◌≤◌, Bool, ◌&&◌, nat_le, List, [], ◌∷◌, length, Option, Some, None, if◌then◌else◌, string_bytes}
use Rattle.std.specs.List.{list_all}
use Rattle.std.specs.Str.{bytes_eq}
use Rattle.std.specs.declared.string.String.{String}
use Rattle.std.specs.declared.alloc.Global.{Global}

abbrev pub is_digit : ℕ → Bool
is_digit b = nat_le 48 b && nat_le b 57

-- the number that decimal digits go on to
abbrev pub value_on : ℕ → List ℕ → ℕ
value_on n [] = n
value_on n (b ∷ digits) = value_on (n * 10 + (b - 48)) digits

-- a number is one to twenty decimal digits, without a sign
abbrev pub is_number : List ℕ → Bool
is_number text = nat_le 1 (length text) && (nat_le (length text) 20 && list_all is_digit text)

-- the number that a word gives, where it is one within these bounds
abbrev pub number_in : ℕ → ℕ → List ℕ → Option ℕ
number_in least most text = if is_number text && (nat_le least (value_on 0 text) && nat_le (value_on 0 text) most) then Some (value_on 0 text) else None

-- the number of threads that a word gives
abbrev pub threads_in : List ℕ → Option ℕ
threads_in text = number_in 1 64 text

-- so many threads may be asked for
abbrev pub IsThreadCount : ℕ → Type 0
IsThreadCount n = (1 ≤ n) × (n ≤ 64)

-- whether a word is this text
abbrev pub is_word : List ℕ → String Global → Bool
is_word text word = bytes_eq (string_bytes word) text
