-- One block in the tower, and the round keys that are added to it there.
use Rattle.std.specs.Prelude.{ℕ, zero, suc, ◌≡◌, ◌≤◌, if◌then◌else◌, nat_lt, List, [], slice_index_or}
use Rattle.aes_core.specs.Tower.{to_tower}
use Rattle.aes_core.specs.State.{byte_at, state_of, add_round_key}
use Rattle.aes_core.specs.Expansion.{key_expansion, round_key, rounds_of}
use Rattle.aes_wide.specs.Steps.{constant}
use Rattle.aes_wide.specs.declared.single.RoundKey.{RoundKey}

-- a block with its bytes in the tower
unfoldable pub towered : List ℕ → List ℕ
towered s = state_of (λ r c. to_tower (byte_at s r c))

-- a round key as it is added: in the tower but for the last, and with the S-box's constant but for the first
abbrev pub added_key : List ℕ → ℕ → List ℕ
added_key key zero = towered (round_key (key_expansion key) 0)
added_key key (suc r) =
    if nat_lt (suc r) (rounds_of key) then towered (add_round_key (round_key (key_expansion key) (suc r)) constant)
    else add_round_key (round_key (key_expansion key) (suc r)) constant

-- the bytes of the row at an index
abbrev pub row_at : List RoundKey → ℕ → List ℕ
row_at rows r = (slice_index_or rows r (record { bytes = [] })).bytes

-- all of a key's
abbrev pub HasRows : List RoundKey → List ℕ → Type 0
HasRows rows key = (r : ℕ) → r ≤ rounds_of key → row_at rows r ≡ added_key key r
