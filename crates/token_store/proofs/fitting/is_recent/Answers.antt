use Rattle.std.proofs.lemmas.Bool.{le-leb, lt-leb}
use Rattle.token_store.proofs.fitting.is_recent.Goals as goal

pub returns-then-token-boot : goal.returns-then-token-boot
returns-then-token-boot c = rw (le-leb c.args.token.now.time c.args.boot c.if-token-boot.true, c.from.ensures, c.from-then-token-boot.ensures)

pub returns-else-token-boot : goal.returns-else-token-boot
returns-else-token-boot c = rw (lt-leb c.args.token.now.time c.args.boot c.if-token-boot.false)
