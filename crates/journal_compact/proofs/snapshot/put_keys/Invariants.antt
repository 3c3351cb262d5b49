use Rattle.std.proofs.Common.{◌-◌, ◌^◌}
use Rattle.journal_records.specs.Storable.{held_key, key_rows_length}
use Rattle.journal_compact.proofs.Telling.{IsTelling, id_of}
use Rattle.journal_compact.proofs.snapshot.put_keys.Given as goal

abbrev pub invariant-keys : goal.invariant-keys
invariant-keys g l = IsTelling g.D.Disk id_of held_key key_rows_length l.fn.disk l.disk (g.K.Held.part l.keys).keys l.past l.fn.rows l.rows l.fn.bytes l.bytes

abbrev pub decreases-keys : goal.decreases-keys
decreases-keys g l = 2 ^ 64 - l.past
