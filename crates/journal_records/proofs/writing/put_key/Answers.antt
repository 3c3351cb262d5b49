-- A key's fields, one behind the other.
use Rattle.std.proofs.Common.{append_assoc}
use Rattle.journal_records.proofs.writing.put_key.Goals as goal

pub returns-clause-front : goal.returns-clause-front
returns-clause-front c = simp (
  c.place_u32.ensures.front,
  c.place_counted_u32-at-3.ensures.front,
  c.place_counted_u32-at-2.ensures.front,
  c.place_counted_u32-at.ensures.front,
  c.place_u64-at-2.ensures.front,
  c.place_bytes-at-2.ensures.front,
  c.place_u64-at.ensures.front,
  c.place_bytes-at.ensures.front,
  append_assoc,
)
