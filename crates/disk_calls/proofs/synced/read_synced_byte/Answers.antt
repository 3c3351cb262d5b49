use Rattle.std.proofs.Common.{rules}
use Rattle.disk_calls.proofs.Filling.{no_byte}
use Rattle.disk_calls.proofs.synced.read_synced_byte.Goals as goal

pub returns-then-count-eq0-clause-byte : goal.returns-then-count-eq0-clause-byte
returns-then-count-eq0-clause-byte g c = λ file left. no_byte c.args.at _ _ file (c.in-Ok-read_still.ensures.bytes file left) c.if-count-eq0.true (search rules)
