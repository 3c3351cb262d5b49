use Rattle.ks_outside.proofs.link.MemoryLinkLink.write.Goals as goal

pub returns-clause-cause : goal.returns-clause-cause
returns-clause-cause c = c.after-self.ensures.cause
