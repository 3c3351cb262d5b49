use Rattle.std.specs.Prelude.{ℕ, List, ◌++◌, codes}
use Rattle.std.specs.Fmt.{decimal}
use Rattle.tags.specs.declared.rule.Rule.{Rule}
use Rattle.tags.specs.declared.rule.RuleTable.{RuleTable}
use Rattle.tags.specs.declared.rule.RuleTable.TheVariants as tables

-- the letter of a rule table
abbrev pub letter_of : RuleTable → List ℕ
letter_of tables.K = codes "K"
letter_of tables.B = codes "B"
letter_of tables.S = codes "S"
letter_of tables.A = codes "A"
letter_of tables.L = codes "L"

-- a rule as users read it: the table's letter, and the number in decimal
abbrev pub rule_text : Rule → List ℕ
rule_text rule = letter_of rule.table ++ decimal rule.number
