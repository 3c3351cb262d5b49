use Rattle.key_rules.proofs.rules.has_own_counts.Goals as goal

pub returns-else-domain-ne-DOMAIN_BLOB : goal.returns-else-domain-ne-DOMAIN_BLOB
returns-else-domain-ne-DOMAIN_BLOB c = rw (c.if-domain-ne-DOMAIN_BLOB.false, c.counts_uses.ensures)
