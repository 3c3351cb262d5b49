-- A page that was not held is blank now, and its bytes were 00 before.
use Rattle.std.proofs.Common.{sym, ◌∙◌}
use Rattle.std.specs.Prelude.{nat_eq}
use Rattle.std.specs.HashMap.{get}
use Rattle.disk_model.proofs.Overlays.{added_page}
use Rattle.disk_model.proofs.pages.Pages.add.Goals as goal

pub returns-clause-bytes : goal.returns-clause-bytes
returns-clause-bytes c =
    added_page (λ k. get nat_eq c.args.self.now.rows k) (λ k. get nat_eq c.put.new.self.rows k) c.args.number c.blank.result c.blank.ensures
    (sym c.contains_key.ensures ∙ c.if-contains_key.false) c.in_ok-put.ensures.rows
