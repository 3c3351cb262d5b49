use Rattle.std.proofs.Common.{◌-◌, ◌^◌}
use Rattle.journal_records.specs.Storable.{held_grant}
use Rattle.journal_compact.proofs.Telling.{IsTelling, grants_length, number_of}
use Rattle.journal_compact.proofs.snapshot.put_grants.Given as goal

abbrev pub invariant-grants : goal.invariant-grants
invariant-grants g l = IsTelling g.D.Disk number_of held_grant grants_length l.fn.disk l.disk (g.K.Held.part l.keys).grants l.past l.fn.rows l.rows l.fn.bytes l.bytes

abbrev pub decreases-grants : goal.decreases-grants
decreases-grants g l = 2 ^ 64 - l.past
