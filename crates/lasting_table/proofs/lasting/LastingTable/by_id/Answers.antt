use Rattle.std.proofs.Common.{◌≡◌}
use Rattle.std.specs.Option.{option_copied}
use Rattle.journal_records.specs.LastingPart.{has_id}
use Rattle.lasting_table.specs.TableView.{lasting_in}
use Rattle.key_maps.proofs.KeyRows.{found_again}
use Rattle.lasting_table.proofs.lasting.LastingTable.by_id.Goals as goal

pub returns-clause-again : goal.returns-clause-again
returns-clause-again c =
    let own : c.self.inside.part.keys.rows ≡ (lasting_in c.args.self.now).keys = cc in
    found_again (has_id c.args.id) (lasting_in c.args.self.now).keys (option_copied c.numbered.result) (rw own at c.numbered.ensures.key) (rw own at c.numbered.ensures.orderly)
