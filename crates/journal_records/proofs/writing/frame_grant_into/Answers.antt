-- A grant behind the gate and the length.
use Rattle.std.proofs.Common.{append_assoc}
use Rattle.journal_records.specs.Spelling.{record_tail}
use Rattle.journal_records.proofs.SnapshotBytes.{held_grant_long}
use Rattle.journal_records.proofs.writing.frame_grant_into.Goals as goal

pub returns-clause-front : goal.returns-clause-front
unfolding record_tail
returns-clause-front c = rw (held_grant_long c.args.row.now) (simp (c.close.ensures.front, c.put_grant-at.ensures.front, c.put_head-at.ensures.front, append_assoc))
