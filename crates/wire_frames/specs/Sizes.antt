-- Sizes as far as the four bytes of a length can name them.
use Rattle.std.specs.Prelude.{◌≡◌, ℕ, ◌≤◌, ◌<◌, ◌^◌, length, if◌then◌else◌}
use Rattle.rule_model.specs.declared.event.Act.{Act}
use Rattle.rule_model.specs.Acts.{is_framed}
use Rattle.wire_frames.specs.Spelling.{frame_of}

-- the size is the length, where four bytes can name it, and else it is too great as well
pub record IsSize (size length : ℕ) : Type 0 where
  pub exact : length < 2 ^ 32 → size ≡ length
  pub great : 2 ^ 32 ≤ length → 2 ^ 32 ≤ size

-- how long the frame of an act is; three acts have none
abbrev pub frame_length : Act → ℕ
frame_length act = if is_framed act then length (frame_of act) else 0
