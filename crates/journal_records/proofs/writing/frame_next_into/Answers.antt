-- Both numbers behind the gate, the length and the kind.
use Rattle.std.proofs.Common.{append_assoc}
use Rattle.journal_records.specs.Spelling.{record_tail}
use Rattle.journal_records.proofs.SnapshotBytes.{next_long}
use Rattle.journal_records.proofs.writing.frame_next_into.Goals as goal

pub returns-clause-front : goal.returns-clause-front
unfolding record_tail
returns-clause-front c = rw (next_long c.args.key c.args.grant) (simp (
  c.close.ensures.front,
  c.place_u64-at-2.ensures.front,
  c.place_u64-at.ensures.front,
  c.place_bytes-at.ensures.front,
  c.put_head-at.ensures.front,
  append_assoc,
))
