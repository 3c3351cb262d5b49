use Rattle.std.proofs.Common.{drop}
use Rattle.tag_lists.specs.Order.{Fits}
use Rattle.script_lines.specs.Params.{param_of}
use Rattle.line_members.proofs.PairLemmas.{PairsGoOn}
use Rattle.script_lines.proofs.params.params_in.Given as goal

abbrev pub invariant-pairs : goal.invariant-pairs
invariant-pairs l = PairsGoOn param_of Fits l.out.items (drop l.pair-index l.pairs) l.pairs
