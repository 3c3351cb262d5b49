use Rattle.journal_records.specs.Spelling.{record_tail}
use Rattle.journal_records.proofs.writing.frame_into.Goals as goal

pub returns-clause-front : goal.returns-clause-front
unfolding record_tail
returns-clause-front c = rw (c.close.ensures.front, c.put_body-at.ensures.front, c.put_head-at.ensures.front, c.body_length.ensures.length)
