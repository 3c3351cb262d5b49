-- KW, the key wrap of SP 800-38F section 6.2, over its wrapping function W of section 6.1. A string stands in registers
-- here that keep their places, as in the descriptions by indexes of RFC 3394 sections 2.2.1 and 2.2.2, and that go round
-- by one with each step in SP 800-38F, which gives the same string. The cipher of a block of 16 bytes (SP 800-38F section
-- 5.1), and its inverse, may be any two functions.
use Rattle.std.specs.Prelude.{ℕ, zero, suc, ◌+◌, ◌*◌, ◌/◌, List, ◌++◌, length, take, drop, replicate, Option, Some, None, if◌then◌else◌}
use Rattle.std.specs.Int.{w64, to_be_bytes, from_be_bytes}
use Rattle.std.specs.Int.Bits.{bit_xor}
use Rattle.std.specs.Str.{bytes_eq}

-- ICV1, the initial value: eight bytes a6 (SP 800-38F section 6.2, algorithm 3, step 1; RFC 3394 section 2.2.3.1)
abbrev pub INITIAL : List ℕ
INITIAL = replicate 8 166

-- A, the value, of eight bytes, and R(1) to R(n), the parts, of eight bytes each, joined (SP 800-38F section 6.1, algorithm
-- 1, step 1; RFC 3394 section 2.2.1, step 1)
pub record State : Type 0 where
  pub value : List ℕ
  pub parts : List ℕ

abbrev pub state_of : List ℕ → List ℕ → State
state_of value parts = record { value = value; parts = parts }

-- n: how many parts a string has
abbrev pub parts_in : List ℕ → ℕ
parts_in bytes = length bytes / 8

-- A xor t: a value and the number of a step in 64 bits, the high byte first (SP 800-38F section 6.1, algorithm 1, step 2 a;
-- RFC 3394 section 2.2.1, step 2)
unfoldable pub numbered : ℕ → List ℕ → List ℕ
numbered t value = to_be_bytes w64 (bit_xor (from_be_bytes w64 value) t)

-- a state with the number of a step in its value
abbrev pub with_number : ℕ → State → State
with_number t s = record s { value = numbered t s.value }

-- A | R(i + 1): the block that goes through the cipher (RFC 3394 section 2.2.1, step 2)
abbrev pub block_of : ℕ → State → List ℕ
block_of i s = s.value ++ take 8 (drop (8 * i) s.parts)

-- MSB(64, B): the first half of a block (SP 800-38F section 6.1, algorithm 1, step 2 a)
abbrev pub first_half : List ℕ → List ℕ
first_half block = take 8 block

-- LSB(64, B): its second half (SP 800-38F section 6.1, algorithm 1, step 2 c)
abbrev pub second_half : List ℕ → List ℕ
second_half block = take 8 (drop 8 block)

-- A = MSB(64, B) and R(i + 1) = LSB(64, B) (RFC 3394 sections 2.2.1 and 2.2.2, step 2)
abbrev pub with_block : ℕ → List ℕ → State → State
with_block i block s = record {
  value = first_half block;
  parts = take (8 * i) s.parts ++ (second_half block ++ drop (8 * i + 8) s.parts);
}

-- Step t, on R(i + 1): B = AES(K, A | R(i + 1)), A = MSB(64, B) xor t, R(i + 1) = LSB(64, B) (RFC 3394 section 2.2.1, step 2;
-- SP 800-38F section 6.1, algorithm 1, step 2).
unfoldable pub step : (List ℕ → List ℕ) → ℕ → ℕ → State → State
step cipher t i s = with_number t (with_block i (cipher (block_of i s)) s)

-- Step t undone: B = AES-1(K, (A xor t) | R(i + 1)), A = MSB(64, B), R(i + 1) = LSB(64, B) (RFC 3394 section 2.2.2, step 2;
-- SP 800-38F section 6.1, algorithm 2, step 2).
unfoldable pub unstep : (List ℕ → List ℕ) → ℕ → ℕ → State → State
unstep inverse t i s = with_block i (inverse (block_of i (with_number t s))) s

-- t: the number of the step of round j, from 0, on R(i + 1) of n (RFC 3394 section 2.2.1, step 2: t = n·j + i, for R(i))
abbrev pub number_of : ℕ → ℕ → ℕ → ℕ
number_of n j i = n * j + i + 1

-- round j, from 0, as far as R(i): the steps on R(1) to R(i) of n, of the numbers n·j + 1 to n·j + i (RFC 3394 section 2.2.1,
-- step 2)
unfoldable pub round : (List ℕ → List ℕ) → ℕ → ℕ → ℕ → State → State
round cipher n j zero s = s
round cipher n j (suc i) s = step cipher (number_of n j i) i (round cipher n j i s)

-- these steps undone, the last one first (RFC 3394 section 2.2.2, step 2)
unfoldable pub unround : (List ℕ → List ℕ) → ℕ → ℕ → ℕ → State → State
unround inverse n j zero s = s
unround inverse n j (suc i) s = unround inverse n j i (unstep inverse (number_of n j i) i s)

-- the first j rounds over n parts, whole and in their order
unfoldable pub rounds : (List ℕ → List ℕ) → ℕ → ℕ → State → State
rounds cipher n zero s = s
rounds cipher n (suc j) s = round cipher n j n (rounds cipher n j s)

-- these rounds undone, the last one first
unfoldable pub unrounds : (List ℕ → List ℕ) → ℕ → ℕ → State → State
unrounds inverse n zero s = s
unrounds inverse n (suc j) s = unrounds inverse n j (unround inverse n j n s)

-- W: six rounds, 6·n steps (SP 800-38F section 6.1, algorithm 1; RFC 3394 section 2.2.1, "For j = 0 to 5")
unfoldable pub wrapping : (List ℕ → List ℕ) → State → State
wrapping cipher s = rounds cipher (parts_in s.parts) 6 s

-- W-1: the same undone (SP 800-38F section 6.1, algorithm 2; RFC 3394 section 2.2.2, "For j = 5 to 0")
unfoldable pub unwrapping : (List ℕ → List ℕ) → State → State
unwrapping inverse s = unrounds inverse (parts_in s.parts) 6 s

-- a state as a string: A | R(1) | .. | R(n) (SP 800-38F section 6.1, algorithm 1, step 3; RFC 3394 section 2.2.1, step 3)
abbrev pub joined : State → List ℕ
joined s = s.value ++ s.parts

-- a string as a state: C(0) is A, and what is behind it R(1) to R(n) (SP 800-38F section 6.1, algorithm 2, step 1; RFC 3394
-- section 2.2.2, step 1)
abbrev pub state_in : List ℕ → State
state_in wrapped = state_of (take 8 wrapped) (drop 8 wrapped)

-- KW-AE: W of ICV1 with a text behind it (SP 800-38F section 6.2, algorithm 3)
unfoldable pub kw_wrap : (List ℕ → List ℕ) → List ℕ → List ℕ
kw_wrap cipher text = joined (wrapping cipher (state_of INITIAL text))

-- the parts, where the value is ICV1, and else FAIL (SP 800-38F section 6.2, algorithm 4, steps 3 and 4; RFC 3394 section
-- 2.2.2, step 3)
abbrev pub text_in : State → Option (List ℕ)
text_in s = if bytes_eq s.value INITIAL then Some s.parts else None

-- KW-AD: the text behind ICV1 in W-1 of a string, or nothing (SP 800-38F section 6.2, algorithm 4)
unfoldable pub kw_open : (List ℕ → List ℕ) → List ℕ → Option (List ℕ)
kw_open inverse wrapped = text_in (unwrapping inverse (state_in wrapped))
