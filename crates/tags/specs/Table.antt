-- A rule table: a list of rows in its order, of which the answer is the first that does not hold.
use Rattle.std.specs.Prelude.{ℕ, Bool, List, [], ◌∷◌, Result, Ok, Err, if◌then◌else◌}
use Rattle.tags.specs.declared.code.Code.{Code}
use Rattle.tags.specs.declared.rule.Rule.{Rule}
use Rattle.tags.specs.declared.rule.RuleTable.{RuleTable}

-- a row: the rule's number, the code of this part of the rule, and whether the part holds
pub record Check : Type 0 where
  pub number : ℕ
  pub code : Code
  pub holds : Bool

abbrev pub check : ℕ → Code → Bool → Check
check number code holds = record { number = number; code = code; holds = holds }

-- a rule of a table
abbrev pub rule_of : RuleTable → ℕ → Rule
rule_of table number = record { table = table; number = number }

-- what a table answers: nothing, or the first rule that does not hold and its code
abbrev pub Ruling : Type 0
Ruling = Result (Unit {0}) (Rule × Code)

abbrev pub first_broken : RuleTable → List Check → Ruling
first_broken table [] = Ok tt
first_broken table (row ∷ rows) = if row.holds then first_broken table rows else Err (rule_of table row.number, row.code)

-- a value where no rule is broken, and otherwise the rule
abbrev pub where_all_hold : {T : Type 0} → Ruling → T → Result T (Rule × Code)
where_all_hold (Ok done) value = Ok value
where_all_hold (Err broken) value = Err broken
