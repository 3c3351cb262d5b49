use Rattle.std.proofs.Common.{drop}
use Rattle.trace_lines.specs.ReplyReads.{entry_of}
use Rattle.line_members.proofs.PairLemmas.{PairsGoOn}
use Rattle.trace_lines.proofs.reply_reads.entries_in.Given as goal

abbrev pub invariant-pairs : goal.invariant-pairs
invariant-pairs l = PairsGoOn entry_of (λ entry. Unit {0}) l.out.items (drop l.pair-index l.pairs) l.pairs
