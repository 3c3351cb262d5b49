-- One more byte was looked at, all were, and none needs to be.
use Rattle.std.proofs.Common.{rules}
use Rattle.byte_strings.proofs.Bits.{all_looked_at, lengths_differ, same_more}
use Rattle.byte_strings.proofs.compare.same_bytes.Goals as goal

pub bytes-preserved : goal.bytes-preserved
bytes-preserved c = same_more c.args.a.now c.args.b.now c.bytes.i c.bytes.difference (search rules) c.if-a-b.false c.bytes.invariant

pub returns : goal.returns
returns c = all_looked_at c.args.a.now c.args.b.now c.bytes.i c.bytes.difference (search rules) (search rules) c.bytes.invariant

pub returns-then-a-b : goal.returns-then-a-b
returns-then-a-b c = lengths_differ c.args.a.now c.args.b.now c.if-a-b.true
