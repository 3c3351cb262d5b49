use Rattle.key_rules.specs.KeptLists.{kept}
use Rattle.key_rules.proofs.kept.kept.Goals as goal

pub returns-clause-kept : goal.returns-clause-kept
unfolding kept
returns-clause-kept c = rw (c.in_ok-origined.ensures.set, c.origin.ensures.origin, c.in_ok-sized.ensures.set, c.in_ok-dated.ensures.set, c.own.ensures.own) at c.with_versions.ensures.list
