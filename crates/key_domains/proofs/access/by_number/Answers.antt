use Rattle.key_domains.proofs.access.by_number.Goals as goal

pub returns : goal.returns
returns c = rw (c.in-Some.is, c.joined.ensures, c.owned_bits-owned.ensures, c.unwrap_or-shared.ensures)
