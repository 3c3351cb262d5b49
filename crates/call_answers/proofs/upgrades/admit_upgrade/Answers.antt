use Rattle.call_answers.proofs.UpgradeKeys.{gives}
use Rattle.call_answers.proofs.upgrades.admit_upgrade.Goals as goal

pub returns : goal.returns
returns c = gives _ _ _ _ _ _ c.in_ok-own.own c.in_ok-own.ensures.opens c.admit.result c.admit.ensures.gives
