use Rattle.std.proofs.Common.{All}
use Rattle.byte_strings.specs.Numbers.{IsThreadCount}
use Rattle.turn_list.proofs.words.ListWords.read.Given as goal

abbrev pub invariant-loop-word : goal.invariant-loop-word
invariant-loop-word l = All IsThreadCount l.threads.items
