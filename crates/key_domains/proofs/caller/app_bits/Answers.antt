use Rattle.key_domains.proofs.caller.app_bits.Goals as goal

pub returns-then-has : goal.returns-then-has
returns-then-has c =
    rw (c.joined.ensures, c.of_bits-owner.ensures, c.of_bits.ensures, c.bit.ensures, ← c.row_bits.ensures, ← c.has.ensures, c.if-has.true)

pub returns-else-has : goal.returns-else-has
returns-else-has c = rw (c.of_bits-owner.ensures, ← c.row_bits.ensures, ← c.has.ensures, c.if-has.false)
