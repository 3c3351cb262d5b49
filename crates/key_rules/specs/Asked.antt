-- The list of an operation, as K4 reads it.
use Rattle.std.specs.Prelude.{ℕ, List, Result, Ok, Err}
use Rattle.tags.specs.declared.code.Code.{Code}
use Rattle.tags.specs.declared.param.Param.{Param}
use Rattle.tags.specs.declared.rule.Rule.{Rule}
use Rattle.tags.specs.declared.rule.RuleTable.TheVariants.{K}
use Rattle.tags.specs.Table.{first_broken, where_all_hold}
use Rattle.key_rules.specs.Rules.{list_in}
use Rattle.key_rules.specs.Table.{bytes_rules}

-- the list that the bytes spell, or the rule of an encoded list where it does not hold
unfoldable pub read_by_rules : List ℕ → Result (List Param) (Rule × Code)
read_by_rules params = where_all_hold (first_broken K (bytes_rules params)) (list_in params)

-- with the code alone
abbrev pub code_alone : Result (List Param) (Rule × Code) → Result (List Param) Code
code_alone (Ok list) = Ok list
code_alone (Err broken) = Err broken.1

-- the list that the bytes spell where K4 holds, or else the code of the first part of K4 that is broken (-21, -40, -38,
-- -21)
unfoldable pub asked : List ℕ → Result (List Param) Code
asked params = code_alone (read_by_rules params)
