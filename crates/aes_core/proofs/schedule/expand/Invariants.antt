use Rattle.std.proofs.Common.{◌≡◌}
use Rattle.aes_core.specs.Expansion.{expanded}
use Rattle.aes_core.proofs.schedule.expand.Given as goal

abbrev pub invariant-words : goal.invariant-words
invariant-words l = l.words ≡ expanded l.nk l.key l.i
