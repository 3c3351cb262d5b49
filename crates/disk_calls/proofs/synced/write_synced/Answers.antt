use Rattle.disk_calls.proofs.Pairs.{sync_follows}
use Rattle.disk_calls.proofs.synced.write_synced.Goals as goal

pub returns-clause-written : goal.returns-clause-written
returns-clause-written g c =
    sync_follows g.D.Disk g.met.D.Disk.content_is_image _ _ _ _ c.sync_ahead.result c.in-Ok.ensures.ahead c.sync_ahead.ensures.made
