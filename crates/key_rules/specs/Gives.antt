-- What a call returned, seen by view, is what is wanted, unless memory ran out.
use Rattle.std.specs.Prelude.{◌≡◌, Result, Ok, Err}
use Rattle.tags.specs.declared.code.Code.{Code}
use Rattle.tags.specs.declared.rule.Rule.{Rule}
use Rattle.key_rules.specs.declared.fault.NewFault.{NewFault}
use Rattle.key_rules.specs.declared.fault.NewFault.TheVariants.{Broken, Memory}

abbrev pub Tells : {Y : Type 0} → NewFault → Result Y (Rule × Code) → Type 0
Tells Memory wanted = Unit {0}
Tells (Broken rule code) wanted = wanted ≡ Err (rule, code)

abbrev pub Gives : {X Y : Type 0} → (X → Y) → Result X NewFault → Result Y (Rule × Code) → Type 0
Gives view (Ok x) wanted = wanted ≡ Ok (view x)
Gives view (Err fault) wanted = Tells fault wanted
