use Rattle.std.proofs.Common.{sym}
use Rattle.call_rules.specs.Table.{upgrade_rules}
use Rattle.call_rules.proofs.table.check_upgrade_key.Goals as goal

pub returns-in-Err-clause-first : goal.returns-in-Err-clause-first
returns-in-Err-clause-first c =
    rw (← c.names_any_key.ensures, ← c.upgrade_permission.ensures) (sym (c.in-Err.ensures.stops (upgrade_rules c.args.facts.now)))
