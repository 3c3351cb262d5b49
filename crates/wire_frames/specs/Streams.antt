-- The frames of a stream, and what a reader of the stream has given of them.
use Rattle.std.specs.Prelude.{◌≡◌, ◌≢◌, ◌⊎◌, ℕ, ◌+◌, ◌-◌, ◌<◌, ◌≤◌, Bool, true, ◌&&◌, nat_lt, nat_le, if◌then◌else◌, List, [], ◌++◌, length, take, drop, flat_map, Option, Some, None}
use Rattle.std.specs.List.{AllByRecursion}
use Rattle.byteorder.specs.Endian.{big_number}
use Rattle.rule_model.specs.declared.event.Act.{Act}
use Rattle.wire_frames.specs.declared.front.Front.{Front}
use Rattle.wire_frames.specs.declared.front.Front.TheVariants.{Part, Bad, Whole}
use Rattle.wire_frames.specs.Spelling.{body_of, frame_of, IsRequest}
use Rattle.wire_frames.specs.Reading.{act_in}
use Rattle.tags.specs.declared.limits.TheConstants.{FRAME_BYTES}

-- ---- what stands at the front of bytes

-- the length that the first four bytes announce
abbrev pub announced : List ℕ → ℕ
announced bytes = big_number 4 bytes

-- a body may have so many bytes
abbrev pub is_length : ℕ → Bool
is_length n = nat_le 1 n && nat_le n FRAME_BYTES

-- how many bytes the frame at the front has, as far as that is known: four until its length is there
abbrev pub needed : List ℕ → ℕ
needed bytes = if nat_lt (length bytes) 4 then 4 else if is_length (announced bytes) then 4 + announced bytes else 4

-- the frame at the front is not whole
abbrev pub IsPart : List ℕ → Type 0
IsPart bytes = length bytes < needed bytes

-- the frame at the front is bad: its length is there and out of range, or its body is whole and is no act's
pub record IsBad (bytes : List ℕ) : Type 0 where
  pub whole : needed bytes ≤ length bytes
  pub none : is_length (announced bytes) ≡ true → (act : Act) → IsRequest act → body_of act ≢ take (announced bytes) (drop 4 bytes)

-- ---- the grammar

-- the frames of these acts, and then these bytes
abbrev pub stream_of : List Act → List ℕ → List ℕ
stream_of acts rest = flat_map frame_of acts ++ rest

-- the requests of a stream: its frames are those of these acts, up to a frame that is bad or not whole, or to its end
pub record HasRequests (stream : List ℕ) (acts : List Act) (rest : List ℕ) : Type 0 where
  pub whole : stream ≡ stream_of acts rest
  pub each : AllByRecursion IsRequest acts
  pub ends : IsPart rest ⊎ IsBad rest

-- where others are the first of these whole frames, the rest are whole frames too
pub record IsBehind (acts others : List Act) (left : List ℕ) : Type 0 where
  pub more : List Act
  pub acts_are : acts ≡ others ++ more
  pub each : AllByRecursion IsRequest more
  pub left_is : left ≡ stream_of more []

-- ---- reading the front

abbrev pub whole_in : Option Act → ℕ → Front
whole_in None size = Bad
whole_in (Some act) size = Whole act size

unfoldable pub front_of : List ℕ → Front
front_of bytes =
    if nat_lt (length bytes) (needed bytes) then Part (needed bytes - length bytes)
    else if is_length (announced bytes) then whole_in (act_in (take (announced bytes) (drop 4 bytes))) (needed bytes)
    else Bad
