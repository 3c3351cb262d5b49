-- What a journal keeps that is brought to areas.
use Rattle.std.proofs.Common.{◌≡◌, Some, ap, subst}
use Rattle.std.specs.Prelude.{reverse}
use Rattle.std.specs.Option.{option_map}
use Rattle.journal_records.specs.Storable.{snapshot}
use Rattle.lasting_table.specs.TableView.{lasting_in}
use Rattle.key_database.specs.Stands.{KeepsFound, KeepsJournal}
use Rattle.key_database.specs.Store.{left_by, part_of}
use Rattle.key_database.specs.declared.opening.Found.{Found}
use Rattle.key_database.proofs.Adopted.{adopted_stays}
use Rattle.key_database.proofs.adopting.to_areas.Goals as goal

pub returns-in-Journal-clause-stays : goal.returns-in-Journal-clause-stays
returns-in-Journal-clause-stays g c = λ kept.
    let part = lasting_in c.args.table.now in
    let rows = reverse (snapshot part) in
    let same : left_by rows ≡ Some part = ap (option_map part_of) (c.storable_law.ensures.restores part c.storable.ensures) in
    let journal : KeepsJournal g.D.Disk c.args.disk.now part = subst (λ (found : Found). KeepsFound g.D.Disk c.args.disk.now part found) c.in-Journal.is kept in
    adopted_stays g.D.Disk c.args.disk.now c.adopt.new.disk part rows (c.storable_law.ensures.spells part c.storable.ensures).0 same journal c.adopt.result c.adopt.ensures.adopts
