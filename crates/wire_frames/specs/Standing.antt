-- Where a reader of frames stands in its stream. Clauses of other crates have these words and no field.
use Rattle.std.specs.Prelude.{◌≡◌, ℕ, ◌+◌, Bool, List, ◌++◌, length, MatchBool}
use Rattle.std.specs.List.{AllByRecursion}
use Rattle.rule_model.specs.declared.event.Act.{Act}
use Rattle.wire_frames.specs.declared.fault.FrameFault.{FrameFault}
use Rattle.wire_frames.specs.declared.fault.FrameFault.TheVariants.{Bad, Memory}
use Rattle.wire_frames.specs.declared.frames.Frames.{Frames}
use Rattle.wire_frames.specs.PartialFrames.{bytes_in}
use Rattle.wire_frames.specs.Spelling.{IsRequest}
use Rattle.wire_frames.specs.Streams.{stream_of, IsPart, IsBad}

-- how many bytes of the stream stand before what is not given yet
abbrev pub start_of : Frames → ℕ
start_of frames = frames.start

-- the bytes that are held back
abbrev pub held_in : Frames → List ℕ
held_in frames = bytes_in frames.held

-- it has come to a bad frame
abbrev pub is_shut : Frames → Bool
is_shut frames = frames.shut

-- how far it has come in the stream, at most
abbrev pub reach : Frames → ℕ
reach frames = start_of frames + length (held_in frames)

-- what stands behind the requests that were given: a bad frame, or the part of one, which is held back
abbrev pub IsLeft : Frames → List ℕ → Type 0
IsLeft frames rest = MatchBool (is_shut frames) (IsBad rest) ((held_in frames ≡ rest) × IsPart rest)

-- these requests of the stream were given, and they are all that it has before a bad frame or the part of one
pub record Stands (stream : List ℕ) (given : List Act) (frames : Frames) : Type 0 where
  pub rest : List ℕ
  pub whole : stream ≡ stream_of given rest
  pub each : AllByRecursion IsRequest given
  pub place : start_of frames + length rest ≡ length stream
  pub left : IsLeft frames rest

-- behind these requests the stream has a bad frame, whose first byte stands at the offset
pub record IsBadAt (stream : List ℕ) (given : List Act) (offset : ℕ) : Type 0 where
  pub rest : List ℕ
  pub whole : stream ≡ stream_of given rest
  pub each : AllByRecursion IsRequest given
  pub place : offset + length rest ≡ length stream
  pub bad : IsBad rest

-- nothing has changed
pub record SameFrames (old new : Frames) : Type 0 where
  pub start : start_of new ≡ start_of old
  pub held : held_in new ≡ held_in old
  pub shut : is_shut new ≡ is_shut old

-- Bad comes where the stream so far has a bad frame, and all requests before it were given; at want of memory nothing
-- was taken
abbrev pub Faults : Frames → List ℕ → Frames → FrameFault → Type 0
Faults old piece new (Bad offset) = (stream : List ℕ) (given : List Act) → Stands stream given old
    → Stands (stream ++ piece) given new × IsBadAt (stream ++ piece) given offset
Faults old piece new Memory = SameFrames old new
