use Rattle.std.proofs.Common.{◌≡◌}
use Rattle.slot_chain.specs.Table.{places_count}
use Rattle.library_tests.specs.PlainList.{Agrees}
use Rattle.library_tests.proofs.chained.agree.Given as goal

abbrev pub invariant-calls : goal.invariant-calls
invariant-calls l = record { agrees : Agrees l.chains l.rows.items; count : places_count l.chains ≡ 64 }
