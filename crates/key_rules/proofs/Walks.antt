-- The walk of the table: the rules of an encoded list, and then those of what it spells.
use Rattle.std.proofs.Common.{◌≡◌, Bool, true, false, if◌then◌else◌, List, [], ◌∷◌, ◌++◌, Ok, Err, refl}
use Rattle.tags.specs.declared.code.Code.{Code}
use Rattle.tags.specs.declared.param.Param.{Param}
use Rattle.tags.specs.declared.rule.Rule.{Rule}
use Rattle.tags.specs.declared.rule.RuleTable.{RuleTable}
use Rattle.tags.specs.Table.{Check, Ruling, first_broken, where_all_hold}
use Rattle.key_rules.specs.declared.fault.NewFault.{NewFault}
use Rattle.key_rules.specs.declared.fault.NewFault.TheVariants.{Broken, Memory}
use Rattle.key_rules.specs.Gives.{Tells}

-- three rows, and what comes behind them
abbrev pub three : Bool → Bool → Bool → (Rule × Code) → (Rule × Code) → (Rule × Code) → Ruling → Ruling
three a b c first second third later = if a then (if b then (if c then later else Err third) else Err second) else Err first

-- a row that does not hold is the answer, whatever comes behind
pub told_first : (a b c : Bool) (first second third : Rule × Code) (later : Ruling) (list : List Param) (fault : NewFault)
    → Tells fault (where_all_hold (three a b c first second third (Ok tt)) list) → Tells fault (where_all_hold (three a b c first second third later) list)
told_first a b c first second third later list Memory told = tt
told_first true true true first second third later list (Broken rule code) told = cc
told_first true true false first second third later list (Broken rule code) told = told
told_first true false c first second third later list (Broken rule code) told = told
told_first false b c first second third later list (Broken rule code) told = told

broken_here : (holds : Bool) (front whole : Ruling) (own broken : Rule × Code) → (front ≡ Err broken → whole ≡ Err broken) → (if holds then front else Err own) ≡ Err broken →
    (if holds then whole else Err own) ≡ Err broken
broken_here true front whole own broken next e = next e
broken_here false front whole own broken next e = e

-- a row that does not hold stops the walk, whatever comes behind
pub stops : (table : RuleTable) (rows later : List Check) (broken : Rule × Code) → first_broken table rows ≡ Err broken → first_broken table (rows ++ later) ≡ Err broken
stops table [] later broken e = cc
stops table (row ∷ rows) later broken e =
    broken_here row.holds (first_broken table rows) (first_broken table (rows ++ later)) _ broken (stops table rows later broken) e

held_here : (holds : Bool) (front whole later : Ruling) (own : Rule × Code) → (front ≡ Ok tt → whole ≡ later) → (if holds then front else Err own) ≡ Ok tt →
    (if holds then whole else Err own) ≡ later
held_here true front whole later own next e = next e
held_here false front whole later own next e = cc

-- where all rows hold, the walk goes on
pub goes_on : (table : RuleTable) (rows later : List Check) → first_broken table rows ≡ Ok tt → first_broken table (rows ++ later) ≡ first_broken table later
goes_on table [] later e = refl
goes_on table (row ∷ rows) later e =
    held_here row.holds (first_broken table rows) (first_broken table (rows ++ later)) (first_broken table later) _ (goes_on table rows later) e
