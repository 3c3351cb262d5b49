use Rattle.std.proofs.Common.{sym, ◌∙◌}
use Rattle.library_tests.proofs.PlainLists.{is_in_none}
use Rattle.library_tests.proofs.chained.push.Goals as goal

pub push_newest-requires-clause-free : goal.push_newest-requires-clause-free
push_newest-requires-clause-free c =
    is_in_none c.args.chains.now c.args.rows.now.items c.args.place c.requires.agrees
    (rw c.deref.ensures.value at (sym c.has.ensures ∙ c.if-has.false))
