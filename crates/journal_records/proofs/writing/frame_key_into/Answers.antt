-- A key behind the gate and the length.
use Rattle.std.proofs.Common.{rules}
use Rattle.journal_records.proofs.SnapshotBytes.{key_closed}
use Rattle.journal_records.proofs.writing.frame_key_into.Goals as goal

pub returns-clause-front : goal.returns-clause-front
returns-clause-front c =
    key_closed c.args.numbers c.args.alias.now c.args.blob.now c.args.list.now _ _ _ _ _
    c.put_head-at.ensures.front c.put_key-at.ensures.front c.place_u32-at.ensures.front c.close.ensures.front (search rules)
