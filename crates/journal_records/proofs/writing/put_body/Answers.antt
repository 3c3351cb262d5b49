-- A number, a blob and a list, one behind the other.
use Rattle.std.proofs.Common.{append_assoc}
use Rattle.journal_records.proofs.writing.put_body.Goals as goal

pub returns-in-Upgrade-clause-front : goal.returns-in-Upgrade-clause-front
returns-in-Upgrade-clause-front c = rw c.in-Upgrade.is (simp (
  c.place_counted_u32.ensures.front,
  c.as_slice-in-Upgrade-2.ensures,
  c.place_counted_u32-at.ensures.front,
  c.as_slice-in-Upgrade.ensures,
  c.place_u64-at.ensures.front,
  c.place_bytes-at-in-Upgrade.ensures.front,
  append_assoc,
))
