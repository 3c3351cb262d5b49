use Rattle.std.proofs.lemmas.Bool.{eq-eqb}
use Rattle.key_domains.proofs.access.by_grant.Goals as goal

pub returns-in-Some : goal.returns-in-Some
returns-in-Some c = λ policy. rw (c.in-Some.is, eq-eqb c.in-Some.grant.uid c.args.uid c.if-grant-uid.true)
