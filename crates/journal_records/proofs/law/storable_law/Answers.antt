use Rattle.journal_records.proofs.Leaving.{leaves_storable}
use Rattle.journal_records.proofs.Restoring.{restores_storable}
use Rattle.journal_records.proofs.SnapshotBytes.{snapshot_records, snapshot_total}
use Rattle.journal_records.proofs.law.storable_law.Goals as goal

pub returns-clause-leaves : goal.returns-clause-leaves
returns-clause-leaves c = leaves_storable

pub returns-clause-restores : goal.returns-clause-restores
returns-clause-restores c = restores_storable

pub returns-clause-spells : goal.returns-clause-spells
returns-clause-spells c = λ part is. (snapshot_records part is, snapshot_total part)
