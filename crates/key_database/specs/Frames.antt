-- Which frames a store may have: those of stores of two areas, by the area that the selector selects, and that of a journal, which is the older
-- format, where the eighth byte is 31.
use Rattle.std.specs.Prelude.{◌≡◌, ℕ, List}
use Rattle.record_areas.specs.Frames.{Frame, IsMarked}
use Rattle.journal_compact.specs.Formats as formats

-- the frame is one that a store may have
abbrev pub IsStoreFrame : Frame → Type 0
IsStoreFrame frame = formats.IsStoreFrame frame

-- the image has the marks of no such frame, and this is the place of what is wrong first
abbrev pub HasNoFrame : List ℕ → ℕ → Type 0
HasNoFrame image offset = formats.IsNoStore image offset

-- ---- the laws

-- an image has one frame at most
abbrev pub OneFrame : Type 0
OneFrame = (frame other : Frame) (image : List ℕ) → IsStoreFrame frame → IsStoreFrame other → IsMarked frame image → IsMarked other image → frame ≡ other

-- where it has one it is not without
abbrev pub FrameOrNone : Type 0
FrameOrNone = (frame : Frame) (image : List ℕ) (offset : ℕ) → IsStoreFrame frame → IsMarked frame image → HasNoFrame image offset → ⊥

-- and what is wrong first with the marks is so at one place
abbrev pub OneNoFrame : Type 0
OneNoFrame = (image : List ℕ) (offset other : ℕ) → HasNoFrame image offset → HasNoFrame image other → offset ≡ other
