-- What a summary has been given.
use Rattle.std.specs.Prelude.{◌≡◌, ℕ, ℤ, List}
use Rattle.sha2.specs.Hashers.{Holds256}
use Rattle.soak_lines.specs.declared.summary.Summary.{Summary}
use Rattle.soak_lines.specs.Summary.{counted}

-- how many lines it was given
abbrev pub lines_in : Summary → ℕ
lines_in summary = summary.lines

-- a summary has been given lines with these codes, the newest first, and this text
pub record HasSummed (replied : List ℤ) (text : List ℕ) (summary : Summary) : Type 0 where
  pub rows : summary.counts.entries ≡ counted replied
  pub digest : Holds256 summary.digest text
