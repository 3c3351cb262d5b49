use Rattle.std.proofs.Common.{map}
use Rattle.slot_chain.proofs.Ordering.{rising_differ}
use Rattle.live_tables.specs.Numbered.{row_number}
use Rattle.live_tables.specs.Operations.{rows_in}
use Rattle.live_tables.proofs.RowTable.{ordered}
use Rattle.live_tables.proofs.operations.Operations.numbers_of.Goals as goal

pub returns-clause-apart : goal.returns-clause-apart
returns-clause-apart c = rising_differ (map row_number (rows_in c.args.self.now)) (ordered (rows_in c.args.self.now) _ c.args.self.now.order)
