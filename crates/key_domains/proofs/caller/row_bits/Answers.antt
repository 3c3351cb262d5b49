use Rattle.key_domains.proofs.caller.row_bits.Goals as goal

pub returns : goal.returns
returns c = rw (c.of_bits.ensures, c.unwrap_or.ensures, c.bits.ensures)
