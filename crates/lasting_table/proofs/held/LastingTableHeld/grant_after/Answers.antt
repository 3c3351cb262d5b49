use Rattle.std.proofs.Common.{◌≡◌, List, Some, ap, sym, ◌∙◌}
use Rattle.std.specs.Prelude.{find}
use Rattle.std.specs.Option.{option_copied, option_map}
use Rattle.grants.specs.declared.row.GrantRow.{GrantRow}
use Rattle.held_rows.specs.Rows.{held_row, is_grant_past}
use Rattle.lasting_table.specs.TableView.{TableView, lasting_in}
use Rattle.lasting_table.proofs.held.LastingTableHeld.grant_after.Goals as goal

pub returns-in-Some : goal.returns-in-Some
returns-in-Some c =
    let own : c.self.inside.part.grants.rows ≡ (lasting_in c.args.self.now).grants = ap (λ (t : TableView). t.part.grants) c.self.view_is in
    let found : find (is_grant_past c.args.past) (lasting_in c.args.self.now).grants ≡ Some c.in-Some.row.now =
    ap (λ (rows : List GrantRow). find (is_grant_past c.args.past) rows) (sym own) ∙ sym c.next_after.ensures.row ∙ ap option_copied c.in-Some.is in
    ap (λ r. Some r) c.of.ensures ∙ sym (ap (option_map held_row) found)
