use Rattle.aes_core.specs.KeyOf.{key_of}
use Rattle.aes_wide.proofs.RowLemmas.{HasSome}
use Rattle.aes_wide.proofs.single.key_rows.Given as goal

abbrev pub invariant-each : goal.invariant-each
invariant-each l = HasSome l.r l.rows (key_of l.plain)
