-- How a table's walk goes on behind a row of it.
use Rattle.std.proofs.Common.{◌≡◌, Bool, true, false, Ok, Err}
use Rattle.std.specs.Prelude.{if◌then◌else◌}
use Rattle.tags.specs.declared.code.Code.{Code}
use Rattle.tags.specs.declared.rule.Rule.{Rule}
use Rattle.tags.specs.Table.{Ruling}

-- a row that does not hold stops the walk, whatever rows come behind it
pub stops : (holds : Bool) (later : Ruling) (broken told : Rule × Code)
    → ◌≡◌ {A = Ruling} (Err broken) (if holds then Ok tt else Err told) → ◌≡◌ {A = Ruling} (Err broken) (if holds then later else Err told)
stops false later broken told e = e
stops true later broken told e = absurd cc
