-- The lines of a script.
use Rattle.std.specs.Prelude.{ℕ, ◌≤◌, List, [], ◌∷◌, length}
use Rattle.line_members.specs.LineFeeds.{IsFree}
use Rattle.tags.specs.declared.limits.TheConstants.{LINE_BYTES}

-- lines without LF, none of them too long
abbrev pub AreLines : List (List ℕ) → Type 0
AreLines [] = Unit {0}
AreLines (line ∷ lines) = (IsFree line × (length line ≤ LINE_BYTES)) × AreLines lines
