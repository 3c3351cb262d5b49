use Rattle.std.proofs.Common.{arith}
use Rattle.journal_compact.proofs.Whole.{snapshot_within}
use Rattle.lasting_table.specs.TableView.{lasting_in}
use Rattle.key_database.proofs.compacting.is_due.Goals as goal

pub overflow_mul-snapshot_length : goal.overflow_mul-snapshot_length
overflow_mul-snapshot_length c = omega (arith, c.snapshot_length.ensures, snapshot_within (lasting_in c.args.table.now) c.storable.ensures)

pub overflow_add-snapshot_length : goal.overflow_add-snapshot_length
overflow_add-snapshot_length c = omega (arith, c.snapshot_length.ensures, snapshot_within (lasting_in c.args.table.now) c.storable.ensures)
