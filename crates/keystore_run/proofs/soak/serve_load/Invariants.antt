use Rattle.std.proofs.Common.{◌+◌, ◌≤◌, [], length}
use Rattle.rule_model.specs.Setup.{Setup}
use Rattle.soak_lines.specs.Summing.{lines_in}
use Rattle.keystore_run.specs.Session.{StandsFor, entries_in}
use Rattle.keystore_run.proofs.Soaking.{Loading}
use Rattle.keystore_run.proofs.soak.serve_load.Given as goal

abbrev pub invariant-lines : goal.invariant-lines
invariant-lines g l = record {
  loading : (setup : Setup) → StandsFor g.D.Disk setup l.fn.session l.fn.disk []
      → Loading g.D.Disk g.N.Entropy setup l.fn.script l.script l.session l.disk l.fn.entropy l.entropy l.summary;
  count : lines_in l.summary + length l.script ≤ 100007;
  entries : entries_in l.session ≤ lines_in l.summary + lines_in l.summary + lines_in l.summary;
}

abbrev pub decreases-lines : goal.decreases-lines
decreases-lines g l = length l.script
