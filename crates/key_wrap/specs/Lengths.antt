-- How many bytes may be wrapped and unwrapped here: the mode takes two parts of eight bytes and more (RFC 3394 section 2), and a key
-- has at most 64.
use Rattle.std.specs.Prelude.{ℕ, ◌%◌, ◌≤◌, ◌≡◌, ◌==◌, ◌&&◌, Bool, nat_le, List, length}

-- a text: from two to eight whole parts
pub record IsText (text : List ℕ) : Type 0 where
  pub whole : length text % 8 ≡ 0
  pub least : 16 ≤ length text
  pub most : length text ≤ 64

-- a wrapped text: eight bytes more, those of the value (SP 800-38F section 6.2, algorithms 3 and 4)
pub record IsWrapped (wrapped : List ℕ) : Type 0 where
  pub whole : length wrapped % 8 ≡ 0
  pub least : 24 ≤ length wrapped
  pub most : length wrapped ≤ 72

-- whether so many bytes may be those of a text
abbrev pub is_text_length : ℕ → Bool
is_text_length size = nat_le 16 size && nat_le size 64 && (size % 8 == 0)

-- whether so many bytes may be those of a wrapped text
abbrev pub is_wrapped_length : ℕ → Bool
is_wrapped_length size = nat_le 24 size && nat_le size 72 && (size % 8 == 0)
