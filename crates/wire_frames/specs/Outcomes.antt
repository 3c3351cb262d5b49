-- What was read of a text.
use Rattle.std.specs.Prelude.{◌≡◌, ℕ, ◌+◌, List, [], length, MatchBool}
use Rattle.std.specs.List.{AllByRecursion}
use Rattle.wire_frames.specs.declared.outcome.FrameOutcome.{FrameOutcome}
use Rattle.wire_frames.specs.PartialFrames.{bytes_in}
use Rattle.wire_frames.specs.Spelling.{IsRequest}
use Rattle.wire_frames.specs.Streams.{stream_of, IsPart, IsBad}

-- the requests of a text, and what stands behind them
pub record IsRead (bytes : List ℕ) (outcome : FrameOutcome) : Type 0 where
  pub rest : List ℕ
  pub whole : stream_of outcome.requests.items rest ≡ bytes
  pub each : AllByRecursion IsRequest outcome.requests.items
  pub place : outcome.used + length rest ≡ length bytes
  pub left : MatchBool outcome.shut ((bytes_in outcome.tail ≡ []) × IsBad rest) ((bytes_in outcome.tail ≡ rest) × IsPart rest)
