use Rattle.journal_records.proofs.Carryings.{carries_on, change_carries, nothing_carries, nothing_stays, stands_on}
use Rattle.journal_records.proofs.law.carrying_law.Goals as goal

pub returns-clause-nothing : goal.returns-clause-nothing
returns-clause-nothing c = nothing_carries

pub returns-clause-stays : goal.returns-clause-stays
returns-clause-stays c = nothing_stays

pub returns-clause-change : goal.returns-clause-change
returns-clause-change c = change_carries

pub returns-clause-on : goal.returns-clause-on
returns-clause-on c = carries_on

pub returns-clause-stands : goal.returns-clause-stands
returns-clause-stands c = stands_on
