use Rattle.std.proofs.Common.{◌∷◌, [], sym}
use Rattle.tags.specs.declared.code.Code.TheVariants.{PermissionDenied}
use Rattle.tags.specs.Table.{check}
use Rattle.key_domains.specs.Bits.{can_share}
use Rattle.call_rules.proofs.table.check_grant.Goals as goal

pub returns-in-Err-clause-first : goal.returns-in-Err-clause-first
returns-in-Err-clause-first c =
    rw (← c.is_shared.ensures) (sym (c.in-Err.ensures.stops (check 8 PermissionDenied (can_share c.args.facts.now.bits c.args.asked) ∷ [])))
