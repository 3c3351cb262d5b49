use Rattle.std.proofs.Common.{refl}
use Rattle.keystore_run.specs.Runs.{Formatted}
use Rattle.keystore_run.proofs.run.serve_fresh.Goals as goal

pub returns-clause-runs : goal.returns-clause-runs
returns-clause-runs g c = Formatted c.format.new.disk
    (record { empty = c.in-Ok.ensures.formatted; later = c.in-Ok.ensures.passes.later; count = c.in-Ok.ensures.goes.cause.same refl; telling = c.in-Ok.ensures.goes.telling })
    c.serve_store.ensures.since_opened
