use Rattle.std.proofs.Common.{◌≡◌}
use Rattle.std.specs.Option.{option_copied}
use Rattle.journal_records.specs.LastingPart.{is_named}
use Rattle.lasting_table.specs.TableView.{lasting_in}
use Rattle.key_maps.proofs.KeyRows.{found_again}
use Rattle.lasting_table.proofs.lasting.LastingTable.by_name.Goals as goal

pub returns-clause-again : goal.returns-clause-again
returns-clause-again c =
    let own : c.self.inside.part.keys.rows ≡ (lasting_in c.args.self.now).keys = cc in
    found_again (is_named c.args.domain c.args.nspace c.args.alias.now) (lasting_in c.args.self.now).keys (option_copied c.named.result) (rw own at c.named.ensures.key) (rw own at c.named.ensures.orderly)
