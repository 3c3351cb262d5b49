use Rattle.std.proofs.Common.{◌∷◌, [], sym}
use Rattle.tags.specs.declared.code.Code.TheVariants.{KeyNotFound}
use Rattle.tags.specs.Table.{check}
use Rattle.call_rules.proofs.table.check_ungrant.Goals as goal

pub returns-in-Err-clause-first : goal.returns-in-Err-clause-first
returns-in-Err-clause-first c = rw (← c.is_shared.ensures) (sym (c.in-Err.ensures.stops (check 9 KeyNotFound c.args.shared ∷ [])))
