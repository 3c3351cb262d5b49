use Rattle.std.proofs.Common.{sym, ◌∙◌, ap}
use Rattle.std.specs.Option.{option_copied}
use Rattle.grants.proofs.Granting.{number_found}
use Rattle.grants.proofs.table.Grants.find.Goals as goal

pub returns-in-Some-clause-number : goal.returns-in-Some-clause-number
returns-in-Some-clause-number c = number_found c.args.grant c.self.inside.maps c.in-Some.row.now (sym c.find.ensures ∙ ap option_copied c.in-Some.is)
