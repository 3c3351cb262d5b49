use Rattle.std.proofs.Common.{◌++◌, ◌∷◌, [], refl, ap}
use Rattle.connection_workers.specs.Arrivals.{in_order}
use Rattle.connection_workers.specs.declared.intake.Arrivals.{Arrivals}
use Rattle.connection_workers.proofs.intake.Intake.note.Goals as goal

pub returns-clause-arrives : goal.returns-clause-arrives
returns-clause-arrives g c = record {
  last = record { worker = c.args.worker; link = c.of.result };
  worker_is = refl;
  link_is = c.of.ensures;
  grown = ap (λ (before : Arrivals g.row.L.Denot). in_order before ++ record { worker = c.args.worker; link = c.of.result } ∷ []) c.of-2.ensures;
}
