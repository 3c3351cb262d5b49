use Rattle.std.proofs.Common.{◌≡◌}
use Rattle.std.specs.Option.{option_copied}
use Rattle.lasting_table.specs.TableView.{lasting_in}
use Rattle.lasting_table.proofs.Listing.{next_is}
use Rattle.lasting_table.proofs.lasting.LastingTable.next_name.Goals as goal

pub returns : goal.returns
returns c =
    let own : c.self.inside.part.keys.rows ≡ (lasting_in c.args.self.now).keys = cc in
    next_is (lasting_in c.args.self.now) c.args.domain c.args.nspace (option_copied c.args.past) (option_copied c.next_name.result) (rw own at c.next_name.ensures.next)
