use Rattle.key_blobs.proofs.opening.compared.Goals as goal

pub returns-then-not-same_bytes-clause-says : goal.returns-then-not-same_bytes-clause-says
returns-then-not-same_bytes-clause-says c = rw (← c.same_bytes.ensures, c.if-not-same_bytes.true)

pub returns-then-not-same_id-clause-says : goal.returns-then-not-same_id-clause-says
returns-then-not-same_id-clause-says c =
    rw (← c.same_bytes.ensures, c.if-not-same_bytes.false, ← c.same_id.ensures, c.if-not-same_id.true)

pub returns-then-not-same_id-2-clause-says : goal.returns-then-not-same_id-2-clause-says
returns-then-not-same_id-2-clause-says c =
    rw (← c.same_bytes.ensures, c.if-not-same_bytes.false, ← c.same_id.ensures, c.if-not-same_id.false, ← c.same_id-2.ensures, c.if-not-same_id-2.true)

pub returns-clause-says : goal.returns-clause-says
returns-clause-says c =
    rw (← c.same_bytes.ensures, c.if-not-same_bytes.false, ← c.same_id.ensures, c.if-not-same_id.false, ← c.same_id-2.ensures, c.if-not-same_id-2.false, c.of-material.ensures, c.in_ok-copy_of.ensures)
