use Rattle.std.proofs.Common.{All, subst, sym}
use Rattle.std.proofs.lemmas.List.Elements.{All-push}
use Rattle.byte_strings.specs.Numbers.{IsThreadCount}
use Rattle.turn_list.proofs.words.ListWords.read.Goals as goal

pub loop-word-preserved : goal.loop-word-preserved
loop-word-preserved c =
    subst (All IsThreadCount) (sym c.in_ok-push.ensures.items)
    (All-push IsThreadCount c.loop-word.threads.items c.in-Some-threads_in.count c.loop-word.invariant c.in-Some-threads_in.ensures.within)
