-- What an operation in a mode puts out: all of it, and how much of it is out after some text.
use Rattle.std.specs.Prelude.{ℕ, ◌-◌, ◌*◌, ◌/◌, ◌%◌, Bool, true, false, ◌&&◌, not, if◌then◌else◌, ◌==◌, List, [], length, Result, Ok, Err}
use Rattle.std.specs.Option.{ok_or}
use Rattle.tags.specs.declared.plan.Plan.{Plan}
use Rattle.tags.specs.declared.plan.Plan.TheVariants.{Ecb, Cbc, Ctr}
use Rattle.tags.specs.Plan.{is_whole}
use Rattle.block_modes.specs.declared.fault.ModeFault.{ModeFault}
use Rattle.block_modes.specs.declared.fault.ModeFault.TheVariants.{Length, Padding}
use Rattle.block_modes.specs.Modes.{ecb, cbc, cbc_open, ctr}
use Rattle.block_modes.specs.Padding.{pad, unpad}

-- the plans of this crate
abbrev pub is_served : Plan → Bool
is_served (Ecb seal padded) = true
is_served (Cbc seal padded) = true
is_served Ctr = true
is_served _ = false

-- what the mode makes of the whole blocks of a text, for CTR of all its bytes, before any test of a padding
unfoldable pub raw : (cipher inverse : List ℕ → List ℕ) → Plan → List ℕ → List ℕ → List ℕ
raw cipher inverse (Ecb true padded) nonce text = ecb cipher text
raw cipher inverse (Ecb false padded) nonce text = ecb inverse text
raw cipher inverse (Cbc true padded) nonce text = cbc cipher nonce text
raw cipher inverse (Cbc false padded) nonce text = cbc_open inverse nonce text
raw cipher inverse Ctr nonce text = ctr cipher nonce text
raw cipher inverse _ nonce text = []

-- the bytes of the blocks that are out after so many bytes: all whole blocks, but where a padded text is opened
-- not the last one received whole while nothing follows it
abbrev pub blocks_out : Bool → Bool → ℕ → ℕ
blocks_out seal padded size = if (padded && not seal) && size % 16 == 0 then size - 16 else 16 * (size / 16)

-- how many bytes are out after so many
abbrev pub front_at : Plan → ℕ → ℕ
front_at (Ecb seal padded) size = blocks_out seal padded size
front_at (Cbc seal padded) size = blocks_out seal padded size
front_at Ctr size = size
front_at _ size = 0

-- how many bytes are out after a text: its length alone decides
unfoldable pub front : Plan → List ℕ → ℕ
front plan text = front_at plan (length text)

-- all output for a text of an allowed length, by what the mode makes of texts
abbrev pub completed : Bool → Bool → (List ℕ → List ℕ) → List ℕ → Result (List ℕ) ModeFault
completed true true made text = Ok (made (pad text))
completed false true made text = ok_or (unpad (made text)) Padding
completed seal false made text = Ok (made text)

abbrev pub whole_blocks : Bool → Bool → (List ℕ → List ℕ) → List ℕ → Result (List ℕ) ModeFault
whole_blocks seal padded made text = if is_whole seal padded (length text) then completed seal padded made text else Err Length

-- all output for a text, or why there is none
unfoldable pub whole : (cipher inverse : List ℕ → List ℕ) → Plan → List ℕ → List ℕ → Result (List ℕ) ModeFault
whole cipher inverse (Ecb seal padded) nonce text = whole_blocks seal padded (raw cipher inverse (Ecb seal padded) nonce) text
whole cipher inverse (Cbc seal padded) nonce text = whole_blocks seal padded (raw cipher inverse (Cbc seal padded) nonce) text
whole cipher inverse plan nonce text = Ok (raw cipher inverse plan nonce text)
