-- The padding of RFC 5652 section 6.3 to blocks of 16 bytes.
use Rattle.std.specs.Prelude.{ℕ, ◌-◌, ◌%◌, Bool, ◌&&◌, if◌then◌else◌, ◌==◌, nat_le, List, ◌++◌, length, take, drop, replicate, Option, Some, None, slice_index}
use Rattle.std.specs.List.{list_all}

-- how many bytes are added to a text of this length: 1 to 16, up to whole blocks
abbrev pub padding_size : ℕ → ℕ
padding_size size = 16 - size % 16

-- the text, and as many bytes of value n as n says
abbrev pub pad : List ℕ → List ℕ
pad text = text ++ replicate (padding_size (length text)) (padding_size (length text))

-- n is 1 to 16, and the last n bytes are all n
abbrev pub is_padding : ℕ → List ℕ → Bool
is_padding n text = nat_le 1 n && nat_le n 16 && nat_le n (length text) && list_all (λ byte. byte == n) (drop (length text - n) text)

-- the text without a padding of n bytes
abbrev pub unpad_by : ℕ → List ℕ → Option (List ℕ)
unpad_by n text = if is_padding n text then Some (take (length text - n) text) else None

-- the text without its padding, whose size is the last byte; none where that is no right padding
abbrev pub unpad : List ℕ → Option (List ℕ)
unpad text = unpad_by (slice_index text (length text - 1)) text
