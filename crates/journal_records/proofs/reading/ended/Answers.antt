use Rattle.journal_records.proofs.reading.ended.Goals as goal

pub returns : goal.returns
returns g c = rw (← c.is_empty.ensures, c.if-not-is_empty.false)
