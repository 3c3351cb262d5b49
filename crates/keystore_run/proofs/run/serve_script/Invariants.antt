use Rattle.std.proofs.Common.{◌+◌, ◌-◌, ◌^◌, ◌≤◌, false, [], length}
use Rattle.ks_outside.specs.Faults.{CountsFaults}
use Rattle.rule_model.specs.Setup.{Setup}
use Rattle.keystore_run.specs.Ends.{outside}
use Rattle.keystore_core.specs.Opening.{IsOpenedFrom}
use Rattle.keystore_run.specs.Session.{StandsFor, entries_in}
use Rattle.keystore_run.proofs.Going.{Going}
use Rattle.keystore_run.proofs.run.serve_script.Given as goal
use Rattle.tags.specs.declared.limits.TheConstants.{SCRIPT_BYTES}

abbrev pub invariant-lines : goal.invariant-lines
invariant-lines g l = record {
  going : (setup : Setup) (begin : g.row.D.Denot) → StandsFor g.D.Disk setup l.fn.session l.fn.handed.disk.now [] → IsOpenedFrom g.D.Disk begin l.fn.handed.disk.now
      → Going g.S.Source g.K.Sink g.D.Disk g.N.Entropy g.met.D.Disk.only_now l.fn.written setup (outside l.fn.handed.source.now l.fn.handed.sink.now begin l.fn.handed.entropy.now) (outside l.source l.sink l.disk l.entropy) l.session l.reader.bytes l.reader.taken l.served false;
  entries : entries_in l.session ≤ l.served + l.served + l.served;
  bytes : l.served + length l.reader.bytes ≤ l.reader.taken;
  taken : l.reader.taken ≤ SCRIPT_BYTES;
  source : CountsFaults (g.S.Source.fault_count l.fn.handed.source.now) (g.S.Source.fault_count l.source) false;
  sink : CountsFaults (g.K.Sink.fault_count l.fn.handed.sink.now) (g.K.Sink.fault_count l.sink) false;
}

abbrev pub decreases-lines : goal.decreases-lines
decreases-lines g l = SCRIPT_BYTES - l.reader.taken + length l.reader.bytes
