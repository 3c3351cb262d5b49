use Rattle.std.proofs.Common.{sym, refl, ◌∙◌}
use Rattle.keystore_process.specs.Processes.{Runs, ServesWords}
use Rattle.keystore_process.proofs.processing.processed.Goals as goal

pub returns-then-begins_with : goal.returns-then-begins_with
returns-then-begins_with g c = ServesWords (sym c.begins_with.ensures ∙ c.if-begins_with.true) c.serve.ensures

pub returns : goal.returns
returns g c = Runs (sym c.begins_with.ensures ∙ c.if-begins_with.false) c.run-end.result c.run-end.ensures refl
